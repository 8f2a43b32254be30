use Rattle.std.proofs.Common.{◌≡◌, length}
use Rattle.lh_term.specs.Arena.{tree_at, trees}
use Rattle.lh_term.specs.Subst.{PairsIn, pairs_at, is_first}
use Rattle.lh_edge.proofs.triggers.is_first.Given as goal

abbrev pub invariant-loop-left : goal.invariant-loop-left
invariant-loop-left l = record {
  within : PairsIn l.terms l.left;
  same : is_first (pairs_at l.terms l.left) (tree_at (trees l.terms) l.x) ≡ is_first (pairs_at l.terms l.swap) (tree_at (trees l.terms) l.x);
}

abbrev pub decreases-loop-left : goal.decreases-loop-left
decreases-loop-left l = length l.left
