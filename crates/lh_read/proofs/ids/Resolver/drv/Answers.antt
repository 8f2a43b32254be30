use Rattle.lh_read.proofs.Lists.{drv-placed}
use Rattle.lh_read.proofs.ids.Resolver.drv.Goals as goal

pub returns : goal.returns
returns c =
    drv-placed c.args.self.now.module c.operand.new.self.module c.value_id.new.self.module c.value_id-2.new.self.module c.maybe_id.new.self.module c.args.unit c.in_ok-to.to c.in_ok-value.value c.in_ok-after.after c.in_ok-cond.cond
    _ _ _ _ c.in_ok-to.ensures c.in_ok-value.ensures c.in_ok-after.ensures c.in_ok-cond.ensures
