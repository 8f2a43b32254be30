use Rattle.std.proofs.Common.{drop}
use Rattle.lh_kernel.specs.Moves.{HasLeft}
use Rattle.lh_kernel.proofs.noted.Noted.leave.Given as goal

-- the moves from the number on are done
abbrev pub invariant-loop-number : goal.invariant-loop-number
invariant-loop-number l = HasLeft (drop l.number l.moves) l.fn.self l.self
