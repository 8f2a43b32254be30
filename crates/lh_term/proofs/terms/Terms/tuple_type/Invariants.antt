use Rattle.std.proofs.Common.{◌≡◌, ◌++◌, length, true}
use Rattle.lh_term.specs.Tree.{tree_row}
use Rattle.lh_term.specs.Types.{types_of}
use Rattle.lh_term.specs.Arena.{trees_at, ids_below}
use Rattle.lh_term.proofs.terms.Terms.tuple_type.Given as goal

abbrev pub invariant-loop-left : goal.invariant-loop-left
invariant-loop-left l = record {
  within : ids_below (length l.self) l.left ≡ true;
  same : l.fields ++ types_of (tree_row (trees_at l.self l.left)) ≡ types_of (tree_row (trees_at l.self l.args));
}

abbrev pub decreases-loop-left : goal.decreases-loop-left
decreases-loop-left l = length l.left
