use Rattle.std.proofs.Common.{◌≡◌, ◌<◌, ◌++◌, drop, length, map}
use Rattle.lh_unit.specs.Within.{Each}
use Rattle.lh_unit.specs.declared.inst.Typed.{Typed}
use Rattle.lh_flat.specs.Renames.{value_in}
use Rattle.lh_flat.proofs.rename.Renaming.values.Given as goal

abbrev pub invariant-loop-operand : goal.invariant-loop-operand
invariant-loop-operand l = record {
  same : l.to ++ map (λ (o : Typed). value_in l.self o.value) (drop l.operand-index l.items) ≡ map (λ (o : Typed). value_in l.self o.value) l.items;
  within : Each (λ (o : Typed). o.value.0 < length l.self.values) (drop l.operand-index l.items);
}
