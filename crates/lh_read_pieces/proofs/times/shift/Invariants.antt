use Rattle.std.proofs.Common.{◌≡◌}
use Rattle.std.specs.Prelude.{◌^◌}
use Rattle.lh_read_pieces.specs.Pieces.{below}
use Rattle.lh_read_pieces.specs.Times.{shifted}
use Rattle.lh_read_pieces.proofs.times.shift.Given as goal

abbrev pub invariant-loop-left : goal.invariant-loop-left
invariant-loop-left l = below (2 ^ 63) (shifted l.n l.left l.rest) ≡ below (2 ^ 63) (shifted l.whole l.places l.part)

abbrev pub decreases-loop-left : goal.decreases-loop-left
decreases-loop-left l = l.left
