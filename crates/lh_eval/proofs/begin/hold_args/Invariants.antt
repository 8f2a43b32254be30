use Rattle.std.proofs.Common.{◌≡◌, drop, length}
use Rattle.lh_unit.specs.Table.{ArgsWithin}
use Rattle.lh_eval.specs.Beginning.{args_given}
use Rattle.lh_eval.proofs.begin.hold_args.Given as goal

abbrev pub invariant-loop-i : goal.invariant-loop-i
invariant-loop-i l = record {
  same : args_given (drop l.i l.args) (drop l.i l.ranges) l.slots ≡ args_given l.args l.ranges l.initial.slots;
  long : length l.slots ≡ length l.initial.slots;
  within : ArgsWithin (length l.initial.slots) (drop l.i l.args);
}
