use Rattle.std.proofs.Common.{take}
use Rattle.lh_kernel.proofs.ActivationMoves.{AreKnownMoves}
use Rattle.lh_kernel.proofs.moves.moves_of.Given as goal

abbrev pub invariant-loop-done : goal.invariant-loop-done
invariant-loop-done l = AreKnownMoves l.design.signals.items l.probes l.states (take l.done-index l.acts) l.moves.items
