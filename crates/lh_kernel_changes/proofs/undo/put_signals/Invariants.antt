use Rattle.lh_kernel_changes.proofs.Undone.{PutTo}
use Rattle.lh_kernel_changes.proofs.undo.put_signals.Given as goal

abbrev pub invariant-loop-number : goal.invariant-loop-number
invariant-loop-number l = PutTo l.design.signals.items l.number-items l.number-index l.fn.now l.from l.now
