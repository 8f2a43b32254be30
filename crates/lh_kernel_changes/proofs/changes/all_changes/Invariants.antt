use Rattle.lh_kernel_changes.proofs.Shows.{AllFrom}
use Rattle.lh_kernel_changes.proofs.changes.all_changes.Given as goal

abbrev pub invariant-loop-number : goal.invariant-loop-number
invariant-loop-number l = AllFrom l.changes l.number l.design.signals.items l.now
