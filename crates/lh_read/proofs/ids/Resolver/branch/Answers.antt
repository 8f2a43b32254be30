use Rattle.lh_read.proofs.Lists.{branch-placed}
use Rattle.lh_read.proofs.ids.Resolver.branch.Goals as goal

pub returns : goal.returns
returns c =
    branch-placed c.args.self.now.module c.value_id.new.self.module c.label_id.new.self.module c.label_id-2.new.self.module c.args.unit c.in_ok-cond.cond c.in_ok-zero.zero c.in_ok-one.one _ _ _
    c.in_ok-cond.ensures c.in_ok-zero.ensures c.in_ok-one.ensures
