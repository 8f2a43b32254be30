-- What follows where what is kept of an instance stands for its state.
use Rattle.std.specs.Prelude.{◌≡◌, ℕ, ◌+◌, ◌<◌, ◌≤◌, List, Some}
use Rattle.lh_types.specs.declared.part.Range.{Range}
use Rattle.lh_unit.specs.Arena.{Arena, IsArena, unit_count, kind_at, contents, unit_name_at, unit_text_at}
use Rattle.lh_unit.specs.declared.inst.UnitKind.{UnitKind}
use Rattle.lh_unit.specs.World.{State, unit_of, senses, wake_of}
use Rattle.lh_unit.specs.Within.{Each}
use Rattle.lh_eval.specs.declared.instance.Instance.{Instance}
use Rattle.lh_design.specs.Texts.{instance_text}
use Rattle.lh_elab.specs.Probed.{probed_by}
use Rattle.lh_elab.specs.Answer.{InstanceIs}
use Rattle.lh_kernel_states.specs.declared.state.InstState.{InstState}
use Rattle.lh_kernel_states.specs.States.{StateIs, StateFits, parts_sensed, wake_kept}

-- Each state that fits stands for one.
abbrev pub FittingStand : Type 0
FittingStand = (a : Arena) (width : ℕ) (i : Instance) (s : InstState) → InstanceIs a width i → StateFits a width i s → (p : State) × StateIs a i s p

-- It senses the parts that the definition has it sense.
abbrev pub SensesAlike : Type 0
SensesAlike = (a : Arena) (width : ℕ) (i : Instance) (s : InstState) (p : State) → StateFits a width i s → StateIs a i s p →
    parts_sensed s (probed_by a i) ≡ senses (unit_text_at a i.unit.0) (instance_text a i) p

-- It wakes by itself when the definition has it wake.
abbrev pub WakesAlike : Type 0
WakesAlike = (a : Arena) (i : Instance) (s : InstState) (p : State) → StateIs a i s p → wake_kept s ≡ wake_of p

-- The parts that it senses lie within the signals, where those that it probes do.
abbrev pub SensesWithin : Type 0
SensesWithin = (a : Arena) (width : ℕ) (i : Instance) (s : InstState) (probes : List Range) → StateFits a width i s → Each (λ (r : Range). r.lo + r.len ≤ width) probes →
    Each (λ (r : Range). r.lo + r.len ≤ width) (parts_sensed s probes)

-- The unit of an instance by its name is the one by its id.
abbrev pub InstanceUnitIsNamed : Type 0
InstanceUnitIsNamed = (a : Arena) (u : ℕ) → IsArena a → u < unit_count a → (k : UnitKind) → kind_at a u ≡ Some k → unit_of (contents a) (unit_name_at a u) ≡ unit_text_at a u
