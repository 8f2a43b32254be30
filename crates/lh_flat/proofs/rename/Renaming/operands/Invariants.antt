use Rattle.std.proofs.Common.{◌≡◌, ◌<◌, ◌++◌, drop, length, map}
use Rattle.lh_unit.specs.Within.{Each}
use Rattle.lh_unit.specs.declared.inst.Typed.{Typed}
use Rattle.lh_flat.specs.Renames.{operand_in}
use Rattle.lh_flat.proofs.rename.Renaming.operands.Given as goal

abbrev pub invariant-loop-operand : goal.invariant-loop-operand
invariant-loop-operand l = record {
  same : l.to ++ map (operand_in l.self) (drop l.operand-index l.operands) ≡ map (operand_in l.self) l.operands;
  within : Each (λ (o : Typed). o.value.0 < length l.self.values) (drop l.operand-index l.operands);
}
