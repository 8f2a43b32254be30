-- The parts that the instances of a design sense.
use Rattle.std.specs.Prelude.{◌≡◌, ℕ, ◌+◌, ◌<◌, List, [], map, Option, Some, slice_index_or}
use Rattle.std.specs.Option.{option_map}
use Rattle.lh_types.specs.declared.part.Range.{Range}
use Rattle.lh_unit.specs.declared.inst.Inst.{Inst}
use Rattle.lh_unit.specs.declared.inst.Inst.TheVariants as inst
use Rattle.lh_unit.specs.declared.inst.UnitKind.{UnitKind}
use Rattle.lh_unit.specs.declared.inst.UnitKind.TheVariants as kind
use Rattle.lh_unit.specs.declared.inst.ValueId.{ValueId}
use Rattle.lh_unit.specs.Arena.{Arena, kind_at, unit_text_at}
use Rattle.lh_unit.specs.Contents.{UnitText}
use Rattle.lh_unit.specs.Pass.{probes}
use Rattle.lh_eval.specs.declared.instance.Instance.{Instance}
use Rattle.lh_eval.specs.Holding.{part_in}
use Rattle.lh_elab.specs.declared.probes.Probe.{Probe}
use Rattle.lh_elab_plan.specs.declared.statics.Base.TheVariants as base
use Rattle.lh_elab_plan.specs.declared.statics.Statics.{Statics}
use Rattle.lh_elab_plan.specs.Plans.{AreRangesOf}
use Rattle.lh_elab_plan.specs.Statics.{base_lo}

-- an entity senses what its probes name
abbrev pub probed_in : Option UnitKind → UnitText → (args sigs : List Range) → List Range
probed_in (Some kind.Entity) u args sigs = probes u args sigs
probed_in _ u args sigs = []

-- the parts that an instance senses by itself; a process waits for its own
abbrev pub probed_by : Arena → Instance → List Range
probed_by a i = probed_in (kind_at a i.unit.0) (unit_text_at a i.unit.0) i.args i.sigs

-- the parts that instances sense, one after the other
abbrev pub AreProbes : Arena → List Instance → List (List Range) → Type 0
AreProbes a is ps = ps ≡ map (probed_by a) is

-- the operand of a `prb` has a slot
abbrev pub ProbeLine : (slots : ℕ) → Inst → Type 0
ProbeLine n (inst.Prb s) = s.value.0 < n
ProbeLine n _ = Unit {0}

-- the part that is held by a value, and of what it is a part
abbrev pub probe_by : Statics → ValueId → Option Probe
probe_by s v = option_map (λ (r : Range). record { base = slice_index_or s.bases.items v.0 (base.Arg 0); part = r }) (part_in s.slots v)

-- where it lies in an instance whose arguments and signals have these bits
abbrev pub above : (args sigs : List Range) → Probe → Range
above args sigs p = record { lo = base_lo args sigs p.base + p.part.lo; len = p.part.len }

-- the parts that the unit u senses, in each instance of it
abbrev pub ProbesOf : Arena → ℕ → List Probe → Type 0
ProbesOf a u ps = (args sigs : List Range) → AreRangesOf (unit_text_at a u) args sigs → map (above args sigs) ps ≡ probed_in (kind_at a u) (unit_text_at a u) args sigs
