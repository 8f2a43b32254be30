use Rattle.std.proofs.Common.{subst}
use Rattle.lh_unit.specs.Builders.{FindsLabel}
use Rattle.lh_read.proofs.Lists.{label-found}
use Rattle.lh_read.proofs.ids.Resolver.label_id.Goals as goal

pub returns : goal.returns
returns c =
    label-found c.enter_block.result c.args.self.now.module c.enter_block.new.self c.args.unit c.args.name.now
    (subst (λ n. FindsLabel c.enter_block.result c.args.self.now.module c.enter_block.new.self c.args.unit n) c.in_ok-name.ensures c.enter_block.ensures)
