-- What elaboration reads of a unit once for all its instances, as the definitions read it for each instance.
use Rattle.std.specs.Prelude.{◌≡◌, ℕ, ◌+◌, ◌<◌, ◌≤◌, List, [], ◌∷◌, length, map, Option, Some, None, slice_index_or}
use Rattle.std.specs.Option.{option_map, option_map_or}
use Rattle.lh_types.specs.Types.{TypeTree, IsData, bit_count}
use Rattle.lh_types.specs.Values.{Datum}
use Rattle.lh_types.specs.Fits.{FitsType}
use Rattle.lh_types.specs.Bits.{value_bits}
use Rattle.lh_types.specs.declared.part.Range.{Range}
use Rattle.lh_unit.specs.Contents.{OperandText, UnitText}
use Rattle.lh_unit.specs.Held.{Held, Env, datum_at}
use Rattle.lh_unit.specs.Hierarchy.{SignalText, Child, type_or_void, zeros, hierarchy_of}
use Rattle.lh_unit.specs.Named.{label_or}
use Rattle.lh_unit.specs.Arena.{Arena, unit_count, value_count, unit_name_at, unit_text_at}
use Rattle.lh_unit.specs.Within.{Each}
use Rattle.lh_unit.specs.declared.inst.ValueId.{ValueId}
use Rattle.lh_unit.specs.declared.inst.Typed.{Typed}
use Rattle.lh_unit.specs.declared.inst.Inst.{Inst}
use Rattle.lh_unit.specs.declared.inst.Inst.TheVariants as inst
use Rattle.lh_eval.specs.Holding.{part_in, datum_in}
use Rattle.lh_eval_laws.specs.Ranges.{arg_types}
use Rattle.lh_elab_plan.specs.declared.statics.Base.TheVariants as base
use Rattle.lh_elab_plan.specs.declared.statics.Statics.{Statics}
use Rattle.lh_elab_plan.specs.declared.plan.PlanSignal.{PlanSignal}
use Rattle.lh_elab_plan.specs.declared.plan.Low.{Low}
use Rattle.lh_elab_plan.specs.declared.plan.PlanChild.{PlanChild}
use Rattle.lh_elab_plan.specs.declared.plan.Plan.{Plan}
use Rattle.lh_elab_plan.specs.Statics.{base_lo}

-- a signal as the definitions have it
abbrev pub signal_of : PlanSignal → SignalText
signal_of s = record { name = s.name; ty = s.ty; initial = s.initial }

-- it begins with as many bits as its type has
abbrev pub SignalFits : PlanSignal → Type 0
SignalFits s = IsData s.ty × (length s.initial ≡ bit_count s.ty)

-- the signal of a `sig` with this name and this operand
abbrev pub signal_by : Env → Option (List ℕ) → OperandText → SignalText
signal_by e n o = record { name = label_or n; ty = type_or_void o.ty; initial = option_map_or value_bits (datum_at e o.value) (zeros (type_or_void o.ty)) }

-- a `sig` has a result and writes a data type, and the value that its operand holds, if it holds one, fits it
abbrev pub SignalIs : Arena → ℕ → List (Option Held) → Option ValueId → Typed → Type 0
SignalIs a u slots None x = ⊥
SignalIs a u slots (Some v) x =
    (v.0 < value_count a u) × (x.value.0 < length slots) × ((t : TypeTree) × (x.ty ≡ Some t) × IsData t × ((d : Datum) → datum_in slots x.value ≡ Some d → FitsType d t))

-- the same of an instruction with its result
abbrev pub SignalLine : Arena → ℕ → List (Option Held) → Option ValueId → Inst → Type 0
SignalLine a u slots r (inst.Sig x) = SignalIs a u slots r x
SignalLine a u slots r _ = Unit {0}

-- the operands of an `inst` have slots, and its unit is one of n
abbrev pub ChildLine : (slots : ℕ) → Inst → Type 0
ChildLine n (inst.Child u inputs outputs) = Each (λ (o : Typed). o.value.0 < n) inputs × Each (λ (o : Typed). o.value.0 < n) outputs
ChildLine n _ = Unit {0}

abbrev pub ChildWithin : ℕ → Inst → Type 0
ChildWithin n (inst.Child u inputs outputs) = u.0 < n
ChildWithin n _ = Unit {0}

-- where the part lies that is held by a value, and those of operands
abbrev pub low_by : Statics → ValueId → Option Low
low_by s v = option_map (λ (r : Range). record { base = slice_index_or s.bases.items v.0 (base.Arg 0); offset = r.lo }) (part_in s.slots v)

abbrev pub lows_by : Statics → List Typed → List (Option Low)
lows_by s os = map (λ (o : Typed). low_by s o.value) os

-- parts that are held end at most at this bit of their argument or `sig`
abbrev pub PartsSmall : Statics → Type 0
PartsSmall s = (v : ValueId) (r : Range) → v.0 < length s.slots → part_in s.slots v ≡ Some r → r.lo ≤ 65536

abbrev pub LowSmall : Option Low → Type 0
LowSmall None = Unit {0}
LowSmall (Some l) = l.offset ≤ 65536

abbrev pub ChildSmall : PlanChild → Type 0
ChildSmall c = Each LowSmall c.lows.items

-- its lowest bit in an instance whose arguments and signals have these bits
abbrev pub low_at : (args sigs : List Range) → Option Low → ℕ
low_at args sigs None = 0
low_at args sigs (Some l) = base_lo args sigs l.base + l.offset

-- an `inst` as the definitions have it
abbrev pub child_of : Arena → (args sigs : List Range) → PlanChild → Child
child_of a args sigs c = record { unit = unit_name_at a c.unit.0; lows = map (low_at args sigs) c.lows.items }

-- ranges have the widths of these types
abbrev pub AreWide : List Range → List TypeTree → Type 0
AreWide [] [] = Unit {0}
AreWide (r ∷ rs) (t ∷ ts) = (r.len ≡ bit_count t) × AreWide rs ts
AreWide _ _ = ⊥

-- the ranges of an instance have the widths of its unit's arguments and signals
pub record AreRangesOf (u : UnitText) (args sigs : List Range) : Type 0 where
  pub of_args : AreWide args (arg_types u.args)
  pub of_signals : AreWide sigs (map (λ (s : SignalText). s.ty) (hierarchy_of u).signals)

-- The plan of the unit u: its signals, and in each instance the instances in it.
pub record IsPlan (a : Arena) (u : ℕ) (p : Plan) : Type 0 where
  pub signals : map signal_of p.signals.items ≡ (hierarchy_of (unit_text_at a u)).signals
  pub children : (args sigs : List Range) → AreRangesOf (unit_text_at a u) args sigs → map (child_of a args sigs) p.children.items ≡ (hierarchy_of (unit_text_at a u)).children args sigs
  pub fit : Each SignalFits p.signals.items
  pub within : Each (λ (c : PlanChild). c.unit.0 < unit_count a) p.children.items
  pub small : Each ChildSmall p.children.items
