use Rattle.std.proofs.Common.{◌≡◌, ◌<◌, drop, length}
use Rattle.lh_unit.specs.Table.{ArgsWithin}
use Rattle.lh_unit.specs.Within.{Each}
use Rattle.lh_unit.specs.declared.inst.Typed.{Typed}
use Rattle.lh_exec.specs.Taking.{operands_given}
use Rattle.lh_exec.proofs.calls.hold_operands.Given as goal

abbrev pub invariant-loop-i : goal.invariant-loop-i
invariant-loop-i l = record {
  same : operands_given (drop l.i l.args) (drop l.i l.operands) l.from l.to ≡ operands_given l.args l.operands l.from l.initial.to;
  long : length l.to ≡ length l.initial.to;
  within : ArgsWithin (length l.initial.to) (drop l.i l.args);
  within_operands : Each (λ (o : Typed). o.value.0 < length l.from) (drop l.i l.operands);
}
