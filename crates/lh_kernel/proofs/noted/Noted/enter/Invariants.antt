use Rattle.std.proofs.Common.{take}
use Rattle.lh_kernel.specs.Moves.{HasEntered}
use Rattle.lh_kernel.proofs.noted.Noted.enter.Given as goal

abbrev pub invariant-loop-number : goal.invariant-loop-number
invariant-loop-number l = HasEntered (take l.number l.moves) l.fn.self l.self
