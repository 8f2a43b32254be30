use Rattle.std.proofs.Common.{◌≡◌, true, length}
use Rattle.lh_term.specs.Tree.{tree_row}
use Rattle.lh_term.specs.Arena.{trees_at, ids_below}
use Rattle.lh_edge.specs.Atoms.{are_one_bit}
use Rattle.lh_edge.proofs.atoms.are_one_bit.Given as goal

abbrev pub invariant-loop-left : goal.invariant-loop-left
invariant-loop-left l = record {
  within : ids_below (length l.terms) l.left ≡ true;
  same : are_one_bit (tree_row (trees_at l.terms l.left)) ≡ are_one_bit (tree_row (trees_at l.terms l.xs));
}

abbrev pub decreases-loop-left : goal.decreases-loop-left
decreases-loop-left l = length l.left
