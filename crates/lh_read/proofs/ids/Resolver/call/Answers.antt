use Rattle.lh_read.proofs.Lists.{call-placed}
use Rattle.lh_read.proofs.ids.Resolver.call.Goals as goal

pub returns : goal.returns
returns c =
    call-placed c.args.self.now.module c.unit_id.new.self.module c.operands.new.self.module c.args.unit c.in_ok-of.of c.args.ty c.in_ok-args.args _ _ c.in_ok-of.ensures c.in_ok-args.ensures
