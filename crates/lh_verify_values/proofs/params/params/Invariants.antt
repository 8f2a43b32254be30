use Rattle.std.proofs.Common.{◌≡◌, List, ℕ, length, Some, slice_get}
use Rattle.lh_unit.specs.Arena.{args_at}
use Rattle.lh_verify_values.specs.Numbers.{NumbersGrow, AreNumbersOf}
use Rattle.lh_verify_values.proofs.params.params.Given as goal

abbrev pub invariant-loop-unit : goal.invariant-loop-unit
invariant-loop-unit l = record {
  long : length l.params.items ≡ l.unit;
  numbers : (u : ℕ) (ns : List ℕ) → slice_get l.params.items u ≡ Some ns → AreNumbersOf l.types (args_at l.m u) ns;
  grows : NumbersGrow l.initial.types l.types;
}
