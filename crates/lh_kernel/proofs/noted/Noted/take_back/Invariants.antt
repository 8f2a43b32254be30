use Rattle.std.proofs.Common.{drop}
use Rattle.lh_kernel.proofs.NotedMoves.{HasTakenBack}
use Rattle.lh_kernel.proofs.noted.Noted.take_back.Given as goal

-- the moves from the number on are done
abbrev pub invariant-loop-number : goal.invariant-loop-number
invariant-loop-number l = HasTakenBack (drop l.number l.moves) l.fn.self l.self
