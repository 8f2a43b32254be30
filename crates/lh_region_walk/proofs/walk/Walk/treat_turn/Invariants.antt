use Rattle.lh_region_walk.proofs.Turned.{TurnSoFar}
use Rattle.lh_region_walk.proofs.walk.Walk.treat_turn.Given as goal

abbrev pub invariant-loop-block : goal.invariant-loop-block
invariant-loop-block l = TurnSoFar l.fn.terms l.region l.fn.self l.turn l.first l.terms l.self l.block
