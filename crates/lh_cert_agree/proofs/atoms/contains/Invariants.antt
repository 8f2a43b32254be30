use Rattle.std.proofs.Common.{◌≡◌, true, length}
use Rattle.lh_term.specs.Arena.{tree_at, trees, trees_at, ids_below}
use Rattle.lh_edge.specs.Atoms.{has}
use Rattle.lh_cert_agree.proofs.atoms.contains.Given as goal

abbrev pub invariant-loop-left : goal.invariant-loop-left
invariant-loop-left l = record {
  within : ids_below (length l.terms) l.left ≡ true;
  same : has (trees_at l.terms l.left) (tree_at (trees l.terms) l.x) ≡ has (trees_at l.terms l.xs) (tree_at (trees l.terms) l.x);
}

abbrev pub decreases-loop-left : goal.decreases-loop-left
decreases-loop-left l = length l.left
