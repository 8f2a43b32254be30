use Rattle.lh_read.proofs.Lists.{wait-placed}
use Rattle.lh_read.proofs.ids.Resolver.wait.Goals as goal

pub returns : goal.returns
returns c =
    wait-placed c.args.self.now.module c.label_id.new.self.module c.maybe_id.new.self.module c.signals.new.self.module c.args.unit c.in_ok-to.to c.in_ok-after.after c.in_ok-signals.signals _ _ _
    c.in_ok-to.ensures c.in_ok-after.ensures c.in_ok-signals.ensures
