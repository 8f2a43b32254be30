use Rattle.std.proofs.Common.{◌≡◌, ◌<◌, ◌++◌, drop, length}
use Rattle.std.specs.Option.{option_map}
use Rattle.lh_unit.specs.Within.{Each}
use Rattle.lh_unit.specs.declared.inst.ValueId.{ValueId}
use Rattle.lh_exec.specs.Standing.{parts_in}
use Rattle.lh_exec.proofs.jumps.parts_in.Given as goal

abbrev pub invariant-loop-signal : goal.invariant-loop-signal
invariant-loop-signal l = record {
  same : option_map (λ rs. l.parts ++ rs) (parts_in l.slots (drop l.signal-index l.signals)) ≡ parts_in l.slots l.signals;
  within : Each (λ (v : ValueId). v.0 < length l.slots) (drop l.signal-index l.signals);
}
