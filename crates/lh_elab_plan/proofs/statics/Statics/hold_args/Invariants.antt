use Rattle.std.proofs.Common.{◌≡◌, drop, length}
use Rattle.lh_unit.specs.Table.{ArgsWithin}
use Rattle.lh_elab_plan.specs.Statics.{by_of, HasSlots, args_begun}
use Rattle.lh_elab_plan.proofs.statics.Statics.hold_args.Given as goal

abbrev pub invariant-loop-i : goal.invariant-loop-i
invariant-loop-i l = record {
  same : args_begun l.i (drop l.i l.args) (by_of l.self) ≡ args_begun 0 l.args (by_of l.initial.self);
  slots : HasSlots l.self;
  long : length l.self.slots ≡ length l.initial.self.slots;
  within : ArgsWithin (length l.initial.self.slots) (drop l.i l.args);
}
