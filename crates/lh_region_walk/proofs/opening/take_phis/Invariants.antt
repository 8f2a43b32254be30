use Rattle.std.proofs.Common.{drop}
use Rattle.lh_region_walk.proofs.Phis.{PhisSoFar}
use Rattle.lh_region_walk.proofs.opening.take_phis.Given as goal

abbrev pub invariant-loop-i : goal.invariant-loop-i
invariant-loop-i l = PhisSoFar l.fn.terms l.fn.places.items l.at (drop l.i l.lines) l.terms l.places.items
