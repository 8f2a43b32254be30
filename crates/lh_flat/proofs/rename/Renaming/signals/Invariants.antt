use Rattle.std.proofs.Common.{◌≡◌, ◌<◌, ◌++◌, drop, length, map}
use Rattle.lh_unit.specs.Within.{Each}
use Rattle.lh_unit.specs.declared.inst.ValueId.{ValueId}
use Rattle.lh_flat.specs.Renames.{value_in}
use Rattle.lh_flat.proofs.rename.Renaming.signals.Given as goal

abbrev pub invariant-loop-signal : goal.invariant-loop-signal
invariant-loop-signal l = record {
  same : l.to ++ map (value_in l.self) (drop l.signal-index l.items) ≡ map (value_in l.self) l.items;
  within : Each (λ (v : ValueId). v.0 < length l.self.values) (drop l.signal-index l.items);
}
