use Rattle.std.proofs.Common.{◌≡◌, length}
use Rattle.lh_term.specs.Arena.{trees, tree_at}
use Rattle.lh_term.specs.Subst.{PairsIn, pairs_at, replaced}
use Rattle.lh_term.proofs.terms.Terms.replaced.Given as goal

abbrev pub invariant-loop-left : goal.invariant-loop-left
invariant-loop-left l = record {
  within : PairsIn l.self l.left;
  same : replaced (pairs_at l.self l.left) (tree_at (trees l.self) l.x) ≡ replaced (pairs_at l.self l.by) (tree_at (trees l.self) l.x);
}

abbrev pub decreases-loop-left : goal.decreases-loop-left
decreases-loop-left l = length l.left
