use Rattle.std.proofs.Common.{◌≡◌, ◌<◌, length, map}
use Rattle.lh_types.specs.Values.{Datum}
use Rattle.lh_unit.specs.Within.{Each}
use Rattle.lh_unit.specs.declared.inst.ValueId.{ValueId}
use Rattle.lh_exec.specs.Taking.{taken_of, put_all}
use Rattle.lh_exec.proofs.jumps.put_taken.Given as goal

abbrev pub invariant-loop-last : goal.invariant-loop-last
invariant-loop-last l = record {
  same : put_all (map taken_of l.taken.items) l.slots ≡ put_all (map taken_of l.initial.taken.items) l.initial.slots;
  within : Each (λ (t : ValueId × Datum). t.0.0 < length l.slots) (map taken_of l.taken.items);
}

abbrev pub decreases-loop-last : goal.decreases-loop-last
decreases-loop-last l = length l.taken.items
