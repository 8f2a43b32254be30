use Rattle.lh_kernel_changes.proofs.Shows.{PickedTo}
use Rattle.lh_kernel_changes.proofs.changes.changes_among.Given as goal

abbrev pub invariant-loop-number : goal.invariant-loop-number
invariant-loop-number l = PickedTo l.changes l.number-index l.number-items l.design.signals.items l.old l.now
