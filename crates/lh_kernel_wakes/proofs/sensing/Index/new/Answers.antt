use Rattle.lh_kernel_wakes.proofs.IndexEntries.{one_new}
use Rattle.lh_kernel_wakes.proofs.sensing.Index.new.Goals as goal

pub loop-signal-preserved : goal.loop-signal-preserved
loop-signal-preserved c = one_new _ _ _ _ c.in_ok-push.ensures.items c.new.ensures c.loop-signal.invariant
