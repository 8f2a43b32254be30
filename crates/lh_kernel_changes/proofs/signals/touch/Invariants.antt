use Rattle.lh_kernel_changes.proofs.TouchedSignals.{EnteredTo}
use Rattle.lh_kernel_changes.proofs.signals.touch.Given as goal

abbrev pub invariant-loop-signal : goal.invariant-loop-signal
invariant-loop-signal l = EnteredTo l.fn.touched l.first l.signal l.touched
