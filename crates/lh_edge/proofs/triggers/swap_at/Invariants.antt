use Rattle.std.proofs.Common.{length}
use Rattle.lh_edge.proofs.Gathered.{GateSoFar}
use Rattle.lh_edge.proofs.triggers.swap_at.Given as goal

abbrev pub invariant-loop-left : goal.invariant-loop-left
invariant-loop-left l = GateSoFar l.fn.terms l.terms l.fn.rise l.part l.presents l.left l.swap

abbrev pub decreases-loop-left : goal.decreases-loop-left
decreases-loop-left l = length l.left
