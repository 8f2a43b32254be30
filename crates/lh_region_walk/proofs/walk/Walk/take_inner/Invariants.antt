use Rattle.std.proofs.Common.{take}
use Rattle.lh_region_walk.proofs.Treated.{LinesSoFar}
use Rattle.lh_region_walk.proofs.walk.Walk.take_inner.Given as goal

abbrev pub invariant-loop-line : goal.invariant-loop-line
invariant-loop-line l = LinesSoFar l.fn.terms l.region l.fn.self l.at (take l.line-index l.lines) l.terms l.self
