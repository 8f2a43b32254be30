use Rattle.std.proofs.Common.{◌≡◌, length, true}
use Rattle.lh_term.specs.Make.{all_constant}
use Rattle.lh_term.specs.Arena.{trees_at, ids_below}
use Rattle.lh_term.proofs.terms.Terms.are_constant.Given as goal

abbrev pub invariant-loop-left : goal.invariant-loop-left
invariant-loop-left l = record { within : ids_below (length l.self) l.left ≡ true; same : all_constant (trees_at l.self l.left) ≡ all_constant (trees_at l.self l.xs) }

abbrev pub decreases-loop-left : goal.decreases-loop-left
decreases-loop-left l = length l.left
