-- What the lines of an entity say, by ids.
use Rattle.std.specs.Prelude.{◌≡◌, ℕ, ◌≤◌, ◌+◌, ◌<◌, ◌^◌, List, [], ◌∷◌, length, map, Option, Some, None}
use Rattle.std.specs.Option.{option_and_then}
use Rattle.lh_types.specs.Types.{TypeTree, IsData, bit_count}
use Rattle.lh_types.specs.Values.{Datum}
use Rattle.lh_types.specs.declared.op.Op.{Op}
use Rattle.lh_types.specs.declared.part.Range.{Range}
use Rattle.lh_unit.specs.Arena.{Arena, IsArena, naming, unit_count}
use Rattle.lh_unit.specs.Contents.{OperandText, InstText, const_text, pure_text, prb_text, UnitText}
use Rattle.lh_unit.specs.Naming.{inst_text, maybe_text, operand_text, value_text, trigger_text}
use Rattle.lh_unit.specs.Typing.{carried}
use Rattle.lh_unit.specs.declared.inst.Inst.{Inst}
use Rattle.lh_unit.specs.declared.inst.Mode.{Mode}
use Rattle.lh_unit.specs.declared.inst.RegTrigger.{RegTrigger}
use Rattle.lh_unit.specs.declared.inst.Typed.{Typed}
use Rattle.lh_unit.specs.declared.inst.ValueId.{ValueId}
use Rattle.lh_term.specs.Tree.{Tree, constant, operation_on, tree_row}
use Rattle.lh_term.specs.Types.{IsTyped, FitsTerm, TakesTypes, types_of}
use Rattle.lh_term.specs.Arena.{trees_at, AreIn, StandsForTree}
use Rattle.lh_term.specs.declared.part.Part.{Part}
use Rattle.lh_term.specs.declared.term.TermId.{TermId}
use Rattle.lh_term.specs.declared.term.TermNode.{TermNode}
use Rattle.lh_region_def.specs.Known.{known_value, Knowledge, nothing_known, with_arguments, value_known, part_known, values_known}
use Rattle.lh_flat_parts.specs.Steps.{range_by}
use Rattle.lh_region.specs.declared.rows.DriveRow.{DriveRow}
use Rattle.lh_flat_parts.specs.declared.step.PartStep.{PartStep}
use Rattle.lh_cert_rows.specs.Rows.{TriggerRow}
use Rattle.lh_cert_rows.specs.Reading.{EntityText, gives, operated, probed, with_row, condition_known, drive_row, triggers_known, register_row, reads_line}
use Rattle.lh_cert_read.specs.Known.{part_at, terms_at, MaybeIn, Knows}
use Rattle.lh_cert_read.specs.Rows.{IsTrigger, AreRegisterTriggers, Says}
use Rattle.lh_cert_read.specs.declared.known.Known.{Known}
use Rattle.lh_cert_read.specs.declared.reading.Reading.{Reading}
use Rattle.lh_cert_read.specs.declared.rows.RegisterRow.{RegisterRow}
use Rattle.lh_cert_read.specs.declared.rows.RegisterTrigger.{RegisterTrigger}

-- ---- what the constructors of terms ask

-- terms of operands are those of an operation that is typed
abbrev pub OperandsFit : List TermNode → List (Option Known) → Op → List Typed → Type 0
OperandsFit ns values o args = (ids : List TermId) → terms_at values args ≡ Some ids → AreIn ns ids × TakesTypes o (types_of (tree_row (trees_at ns ids)))

-- a part is of a data type, and the bits of the part of it to which a step leads have numbers below 2 ^ 32
pub record CanStep (p : Part) (s : PartStep) : Type 0 where
  pub is_data : IsData p.ty
  pub in_range : (r : Range) → range_by p.ty s.op ≡ Some r → (p.lo + r.lo) + bit_count s.ty < 2 ^ 32

-- so is the part that a step starts from
abbrev pub StepFits : List (Option Known) → Option PartStep → Type 0
StepFits values step = (s : PartStep) (p : Part) → step ≡ Some s → part_at values s.from ≡ Some p → CanStep p s

-- a part that is known is of a data type
abbrev pub PartFits : List (Option Known) → ValueId → Type 0
PartFits values v = (p : Part) → part_at values v ≡ Some p → IsData p.ty

-- ---- what has been said

-- what is known and the rows are what an entity has said
pub record IsReading (a : Arena) (u : ℕ) (ns : List TermNode) (r : Reading) (e : EntityText) : Type 0 where
  pub known : Knows a u ns r.known.values.items e.known
  pub says : Says ns r.rows e

-- From what was said, with the terms of one arena, it has come to what a step makes of it, with those of another.
abbrev pub Reads : (old new : List TermNode) → (was is : Reading) → (Arena → ℕ → EntityText → EntityText) → Type 0
Reads old new was is step = (a : Arena) (u : ℕ) (e : EntityText) → IsArena a → u < unit_count a → IsReading a u old was e → IsReading a u new is (step a u e)

-- before the first line
abbrev pub begun : UnitText → EntityText
begun u = record { known = with_arguments nothing_known 0 u.args; probes = []; rows = [] }

-- the terms of a line fit, where this is known
abbrev pub LineFits : Knowledge → InstText → Type 0
LineFits k (const_text d) = FitsTerm d
LineFits k (pure_text o os) =
    ((ts : List Tree) → values_known k os ≡ Some ts → IsTyped (operation_on o ts))
    × ((x : OperandText) (p : Part) → os ≡ x ∷ [] → part_known k x.value ≡ Some p →
    IsData p.ty × ((t : TypeTree) (r : Range) → option_and_then carried x.ty ≡ Some t → range_by p.ty o ≡ Some r → (r.len ≡ bit_count t) × (r.lo + r.len ≤ bit_count p.ty)))
LineFits k (prb_text s) = (p : Part) → part_known k s.value ≡ Some p → IsData p.ty
LineFits k _ = Unit {0}

-- something was said, with which the terms of an instruction fit
pub record CanTake (a : Arena) (u : ℕ) (ns : List TermNode) (r : Reading) (i : Inst) : Type 0 where
  pub text : EntityText
  pub is : IsReading a u ns r text
  pub fits : LineFits text.known (inst_text (naming a u) i)

-- what an instruction says, with the name of its result
abbrev pub said_by : Arena → ℕ → EntityText → Option ValueId → Inst → EntityText
said_by a u e name i = reads_line e (inst_text (naming a u) i) (maybe_text (naming a u) name)

-- what each kind of line says
abbrev pub says_constant : (name : Option ValueId) → Datum → Arena → ℕ → EntityText → EntityText
says_constant name d a u e = gives e (maybe_text (naming a u) name) (Some (known_value (constant d)))

abbrev pub says_operation : (name : Option ValueId) → Op → List Typed → Arena → ℕ → EntityText → EntityText
says_operation name o args a u e = gives e (maybe_text (naming a u) name) (operated e.known o (map (operand_text (naming a u)) args))

abbrev pub says_probe : (name : Option ValueId) → ValueId → Arena → ℕ → EntityText → EntityText
says_probe name s a u e = probed e (maybe_text (naming a u) name) (part_known e.known (value_text (naming a u) s))

abbrev pub says_drive : (to value after : ValueId) → (cond : Option ValueId) → Arena → ℕ → EntityText → EntityText
says_drive to value after cond a u e =
    with_row e (drive_row (condition_known e.known (maybe_text (naming a u) cond)) (part_known e.known (value_text (naming a u) to)) (value_known e.known (value_text (naming a u) value))
    (value_known e.known (value_text (naming a u) after)))

abbrev pub says_register : (to : ValueId) → List RegTrigger → Arena → ℕ → EntityText → EntityText
says_register to gs a u e = with_row e (register_row (part_known e.known (value_text (naming a u) to)) (triggers_known e.known (map (trigger_text (naming a u)) gs)))

-- ---- what is looked up

-- the term of an id, if there is one, is the tree
abbrev pub MaybeTerm : List TermNode → Option TermId → Option Tree → Type 0
MaybeTerm ns None None = Unit {0}
MaybeTerm ns (Some t) (Some x) = StandsForTree ns t x
MaybeTerm ns _ _ = ⊥

-- the trigger, if there is one, is that one
abbrev pub MaybeTrigger : List TermNode → Option RegisterTrigger → Option TriggerRow → Type 0
MaybeTrigger ns None None = Unit {0}
MaybeTrigger ns (Some g) (Some x) = IsTrigger ns g x
MaybeTrigger ns _ _ = ⊥

-- so are triggers
abbrev pub MaybeTriggers : List TermNode → Option (List RegisterTrigger) → Option (List TriggerRow) → Type 0
MaybeTriggers ns None None = Unit {0}
MaybeTriggers ns (Some gs) (Some xs) = AreRegisterTriggers ns gs xs
MaybeTriggers ns _ _ = ⊥

-- ---- rows of what is found

abbrev pub drive_by : (cond : Option TermId) → Option Part → (value delay : Option TermId) → Option DriveRow
drive_by (Some c) (Some p) (Some v) (Some d) = Some (record { cond = c; part = p; value = v; delay = d })
drive_by _ _ _ _ = None

abbrev pub trigger_by : Mode → (operand gate value delay : Option TermId) → Option RegisterTrigger
trigger_by m (Some x) (Some g) (Some v) (Some d) = Some (record { mode = m; operand = x; gate = g; value = v; delay = d })
trigger_by m _ _ _ _ = None

abbrev pub register_by : Option Part → Option (List RegisterTrigger) → Option RegisterRow
register_by (Some p) (Some gs) = Some (record { part = p; triggers = gs })
register_by _ _ = None

-- a lookup by ids finds, in whatever unit, what one under names does
abbrev pub Finds : (old : List TermNode) → List (Option Known) → (Arena → ℕ → Knowledge → Type 0) → Type 0
Finds old values found = (a : Arena) (u : ℕ) (k : Knowledge) → Knows a u old values k → found a u k

-- the values that a trigger names are of the unit
pub record TriggerIn (values : List (Option Known)) (g : RegTrigger) : Type 0 where
  pub value : g.value.0 < length values
  pub trigger : g.trigger.0 < length values
  pub gate : MaybeIn values g.gate
  pub after : MaybeIn values g.after
