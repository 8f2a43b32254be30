use Rattle.lh_edge.proofs.Made.{MadeSoFar}
use Rattle.lh_edge.proofs.triggers.triggers.Given as goal

abbrev pub invariant-loop-k : goal.invariant-loop-k
invariant-loop-k l = MadeSoFar l.fn.terms l.terms l.fn.cond l.parts l.presents.items l.triggers l.k
