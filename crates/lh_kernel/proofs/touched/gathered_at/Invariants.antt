use Rattle.std.proofs.Common.{length}
use Rattle.lh_queue.specs.Places.{rest_from}
use Rattle.lh_kernel.proofs.WishedSignals.{TouchedTo}
use Rattle.lh_kernel.proofs.touched.gathered_at.Given as goal

abbrev pub invariant-loop-key : goal.invariant-loop-key
invariant-loop-key l = TouchedTo l.design.signals.items (length l.design.init) l.queue.held l.at l.touched l.key

abbrev pub decreases-loop-key : goal.decreases-loop-key
decreases-loop-key l = length (rest_from l.queue.held l.key)
