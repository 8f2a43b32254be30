use Rattle.lh_read.proofs.Lists.{reg-placed}
use Rattle.lh_read.proofs.ids.Resolver.reg.Goals as goal

pub returns : goal.returns
returns c =
    reg-placed c.args.self.now.module c.operand.new.self.module c.triggers.new.self.module c.args.unit c.in_ok-to.to c.in_ok-triggers.triggers _ _ c.in_ok-to.ensures c.in_ok-triggers.ensures
