use Rattle.std.proofs.Common.{◌≡◌, ◌++◌, length, map, true}
use Rattle.lh_types.specs.ValueOf.{datum_of}
use Rattle.lh_term.specs.Make.{all_constant, values_in}
use Rattle.lh_term.specs.Arena.{trees_at, ids_below}
use Rattle.lh_term.proofs.terms.Terms.values.Given as goal

abbrev pub invariant-loop-left : goal.invariant-loop-left
invariant-loop-left l = record {
  within : ids_below (length l.self) l.left ≡ true;
  constants : all_constant (trees_at l.self l.left) ≡ true;
  same : map datum_of l.values.items ++ values_in (trees_at l.self l.left) ≡ values_in (trees_at l.self l.args);
}

abbrev pub decreases-loop-left : goal.decreases-loop-left
decreases-loop-left l = length l.left
