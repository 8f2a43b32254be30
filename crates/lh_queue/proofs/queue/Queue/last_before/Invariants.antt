use Rattle.std.proofs.Common.{length}
use Rattle.lh_queue.specs.Places.{StandsBeforeInBucket, behind}
use Rattle.lh_queue.proofs.queue.Queue.last_before.Given as goal

abbrev pub invariant-loop-next : goal.invariant-loop-next
invariant-loop-next l = StandsBeforeInBucket l.self.held l.w l.to

abbrev pub decreases-loop-next : goal.decreases-loop-next
decreases-loop-next l = length (behind l.self.held l.to)
