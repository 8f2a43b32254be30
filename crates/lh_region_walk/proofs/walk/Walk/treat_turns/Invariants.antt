use Rattle.std.proofs.Common.{length}
use Rattle.lh_region_walk.proofs.Turned.{TurnsSoFar}
use Rattle.lh_region_walk.proofs.walk.Walk.treat_turns.Given as goal

abbrev pub invariant-loop-turn : goal.invariant-loop-turn
invariant-loop-turn l = TurnsSoFar l.fn.terms l.region l.fn.self l.first (length l.region.flat.now.blocks) l.terms l.self l.turn
