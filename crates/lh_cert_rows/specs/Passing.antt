-- A pass of an entity does its rows.
use Rattle.std.specs.Prelude.{◌≡◌, List, [], map, Bool, Option}
use Rattle.std.specs.Option.{option_map}
use Rattle.lh_time.specs.declared.Instant.{Instant}
use Rattle.lh_types.specs.Types.{TypeTree, time_type, IsData, bit_count}
use Rattle.lh_types.specs.declared.part.Range.{Range}
use Rattle.lh_unit.specs.declared.inst.UnitKind.TheVariants as kind
use Rattle.lh_unit.specs.Contents.{InstText, sig_text, child_text, LineText, ArgText, UnitText, ItemText, unit_text}
use Rattle.lh_unit.specs.Hierarchy.{lines_of}
use Rattle.lh_unit.specs.Pass.{pass, probes}
use Rattle.lh_unit.specs.Within.{Each}
use Rattle.lh_unit.specs.WellFormed.{IsWellFormed}
use Rattle.lh_term.specs.Leaves.{AllParts}
use Rattle.lh_term.specs.Mean.{Valuation}
use Rattle.lh_term.specs.declared.part.Part.{Part}
use Rattle.lh_region_def.specs.Means.{range_in, reads}
use Rattle.lh_region_def.specs.Right.{DriveTyped}
use Rattle.lh_region_def.specs.Rows.{DriveReads}
use Rattle.lh_region_def.specs.Typed.{Among, IsCondition, IsOfType}
use Rattle.lh_cert_rows.specs.Rows.{TriggerRow, EntityRow, driven_by, registered}
use Rattle.lh_cert_rows.specs.Reading.{read}
use Rattle.lh_cert_rows.specs.Means.{rows_wish, seen_by}

-- ---- rows that are typed

-- a trigger of a register that carries this type: its operand and its gate are one bit, its value is of the type, and its delay a time
pub record TriggerTyped (ty : TypeTree) (g : TriggerRow) : Type 0 where
  pub operand : IsCondition g.operand
  pub gate : IsCondition g.gate
  pub value : IsOfType ty g.value
  pub delay : IsOfType time_type g.delay

abbrev pub RowTyped : EntityRow → Type 0
RowTyped (driven_by d) = DriveTyped d
RowTyped (registered p gs) = IsData p.ty × Each (TriggerTyped p.ty) gs

-- each part that a trigger reads has this
pub record TriggerReads (P : Part → Type 0) (g : TriggerRow) : Type 0 where
  pub operand : AllParts P g.operand
  pub gate : AllParts P g.gate
  pub value : AllParts P g.value
  pub delay : AllParts P g.delay

abbrev pub RowReads : (Part → Type 0) → EntityRow → Type 0
RowReads P (driven_by d) = DriveReads P d
RowReads P (registered p gs) = Each (TriggerReads P) gs

-- ---- what a pass does

-- neither `sig` nor `inst`
abbrev pub IsPlain : InstText → Type 0
IsPlain (sig_text a) = ⊥
IsPlain (child_text u inputs outputs) = ⊥
IsPlain _ = Unit {0}

-- an entity of a well-formed module, without signals and instances of its own
pub record IsPlainEntity (items : List ItemText) (y : UnitText) : Type 0 where
  pub formed : IsWellFormed items
  pub among : Among (unit_text y) items
  pub entity : y.kind ≡ kind.Entity
  pub plain : Each (λ (l : LineText). IsPlain l.inst) (lines_of y.blocks)

-- Each row that it says is typed, and reads only parts that it probes.
pub record SaysTypedRows (y : UnitText) : Type 0 where
  pub typed : Each RowTyped (read y).rows
  pub probed : Each (RowReads (λ p. Among p (read y).probes)) (read y).rows

-- what a pass remembers of a run at which the parts had these values, if there was one
abbrev pub memory_of : (past : Option Valuation) → List EntityRow → Option (List Bool)
memory_of past rows = option_map (λ v. seen_by v rows) past

-- A pass with arguments of these bits: whatever it remembers, it sees the triggers of its rows; by the values that they had at the run before, if
-- there was one, it wishes what its rows wish; and it senses the parts that it probes.
pub record PassDoesRows (y : UnitText) (args : List Range) : Type 0 where
  pub seen : (now : List Bool) (memory : Option (List Bool)) (t : Instant) → (pass y args [] now memory t).seen ≡ seen_by (reads args now) (read y).rows
  pub wish : (past : Option Valuation) (now : List Bool) (t : Instant) → (pass y args [] now (memory_of past (read y).rows) t).wish ≡ rows_wish past (reads args now) args t (read y).rows
  pub senses : probes y args [] ≡ map (range_in args) (read y).probes

-- The rows of an entity are typed.
abbrev pub RowsAreTyped : Type 0
RowsAreTyped = (items : List ItemText) (y : UnitText) → IsPlainEntity items y → SaysTypedRows y

-- A pass does them, where the arguments are as wide as their types, wherever they lie.
abbrev pub PassesDoRows : Type 0
PassesDoRows = (items : List ItemText) (y : UnitText) → IsPlainEntity items y → (args : List Range) →
    map (λ (r : Range). r.len) args ≡ map (λ (a : ArgText). bit_count a.ty) y.args → PassDoesRows y args
