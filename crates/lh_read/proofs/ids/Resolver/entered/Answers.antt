use Rattle.std.proofs.Common.{Ok, subst}
use Rattle.lh_unit.specs.Builders.{FindsValue}
use Rattle.lh_read.proofs.Lists.{value-found}
use Rattle.lh_read.proofs.ids.Resolver.entered.Goals as goal

pub returns : goal.returns
returns c =
    value-found c.args.self.now.module c.enter_value.new.self c.args.unit c.in_ok-value.value c.args.name.now
    (subst (λ n. FindsValue (Ok c.in_ok-value.value) c.args.self.now.module c.enter_value.new.self c.args.unit n) c.in_ok-name.ensures c.in_ok-value.ensures)
