use Rattle.lh_kernel.proofs.ActivationMoves.{LeftOver}
use Rattle.lh_kernel.proofs.moves.without.Given as goal

abbrev pub invariant-loop-number : goal.invariant-loop-number
invariant-loop-number l = LeftOver l.number-items l.those l.number-index l.rest
