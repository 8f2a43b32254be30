use Rattle.std.proofs.Common.{◌≡◌, length, take}
use Rattle.lh_verify_values.specs.Numbers.{NumbersGrow, AreNumbersOf}
use Rattle.lh_verify_values.proofs.params.put_arg_numbers.Given as goal

abbrev pub invariant-loop-arg : goal.invariant-loop-arg
invariant-loop-arg l = record {
  long : length l.list ≡ length (take l.arg-index l.args);
  numbers : AreNumbersOf l.types (take l.arg-index l.args) l.list;
  grows : NumbersGrow l.initial.types l.types;
}
