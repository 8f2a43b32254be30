use Rattle.std.proofs.Common.{length}
use Rattle.lh_emit.proofs.TermParts.{ConstantsSoFar}
use Rattle.lh_emit.proofs.making.constants.Given as goal

abbrev pub invariant-loop-left : goal.invariant-loop-left
invariant-loop-left l = ConstantsSoFar l.fn.terms l.values l.terms l.list l.left

abbrev pub decreases-loop-left : goal.decreases-loop-left
decreases-loop-left l = length l.left
