use Rattle.std.proofs.Common.{take}
use Rattle.lh_edge.proofs.Gathered.{GatheredSoFar}
use Rattle.lh_edge.proofs.triggers.gathered.Given as goal

abbrev pub invariant-loop-x : goal.invariant-loop-x
invariant-loop-x l = GatheredSoFar l.fn.terms l.terms (take l.x-index l.made_of) l.pairs.items
