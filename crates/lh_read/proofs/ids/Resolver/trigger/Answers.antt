use Rattle.lh_read.proofs.Lists.{trigger-placed}
use Rattle.lh_read.proofs.ids.Resolver.trigger.Goals as goal

pub returns : goal.returns
returns c =
    trigger-placed c.args.self.now.module c.value_id.new.self.module c.value_id-2.new.self.module c.maybe_id.new.self.module c.maybe_id-2.new.self.module c.args.unit c.in_ok-value.value c.args.from.now.mode c.in_ok-trigger.trigger
    c.in_ok-gate.gate c.in_ok-after.after _ _ _ _ c.in_ok-value.ensures c.in_ok-trigger.ensures c.in_ok-gate.ensures c.in_ok-after.ensures
