use Rattle.std.proofs.Common.{◌≡◌, true, length}
use Rattle.lh_term.specs.Arena.{tree_at, trees, trees_at, ids_below}
use Rattle.lh_edge.specs.Steps.{numbered}
use Rattle.lh_edge.proofs.table.bit_of.Given as goal

abbrev pub invariant-loop-left : goal.invariant-loop-left
invariant-loop-left l = record {
  within : ids_below (length l.terms) l.left ≡ true;
  same : numbered (trees_at l.terms l.left) l.bits (tree_at (trees l.terms) l.x) ≡ numbered (trees_at l.terms l.atoms) l.valuation (tree_at (trees l.terms) l.x);
}

abbrev pub decreases-loop-left : goal.decreases-loop-left
decreases-loop-left l = length l.left
