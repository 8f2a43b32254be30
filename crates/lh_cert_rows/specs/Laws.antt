-- What the lines of an entity do, as their terms and rows say.
use Rattle.std.specs.Prelude.{◌≡◌, ℕ, List, ◌++◌, length, Bool, false, Option, Some, None, unwrap_or}
use Rattle.lh_time.specs.declared.Instant.{Instant}
use Rattle.lh_types.specs.Types.{signal_type}
use Rattle.lh_types.specs.Wish.{Wish}
use Rattle.lh_types.specs.declared.op.Op.{Op}
use Rattle.lh_types.specs.declared.part.Range.{Range}
use Rattle.lh_unit.specs.Contents.{OperandText, TriggerText, UnitText}
use Rattle.lh_unit.specs.Held.{Env}
use Rattle.lh_unit.specs.Effects as effect
use Rattle.lh_unit.specs.Effects.{driven}
use Rattle.lh_unit.specs.Pass.{Passed, triggers_from}
use Rattle.lh_term.specs.Tree.{Tree, now_of, operation_on}
use Rattle.lh_term.specs.Types.{IsTyped}
use Rattle.lh_term.specs.Mean.{Valuation, IsFitting, mean}
use Rattle.lh_term.specs.declared.part.Part.{Part}
use Rattle.lh_region_def.specs.Known.{Known, known_value, Knowledge, part_known, value_known, values_known}
use Rattle.lh_region_def.specs.Means.{range_in, reads, held_as}
use Rattle.lh_region_def.specs.Rows.{Drive}
use Rattle.lh_region_def.specs.Typed.{IsCondition}
use Rattle.lh_cert_terms.specs.Rebuilding.{read_operation}
use Rattle.lh_cert_rows.specs.Rows.{TriggerRow, driven_by, registered}
use Rattle.lh_cert_rows.specs.Reading.{triggers_known, condition_known, drive_row}
use Rattle.lh_cert_rows.specs.Means.{row_made, triggers_seen}

-- what is known under a name is held, where the parts have these values
abbrev pub IsHeld : Valuation → List Range → Knowledge → Env → Type 0
IsHeld v args k e = (n : List ℕ) (x : Known) → k n ≡ Some x → e n ≡ Some (held_as (mean v v) (range_in args) x)

-- The memory of the previous run has, behind what was seen before, the values that the triggers had then; without a memory there was no run.
pub data Remembers : (past : Option Valuation) → (memory : Option (List Bool)) → (seen : List Bool) → List TriggerRow → Type 0 where
  no_run : (seen : List Bool) (gs : List TriggerRow) → Remembers None None seen gs
  a_run : (v : Valuation) (before behind seen : List Bool) (gs : List TriggerRow) → length before ≡ length seen
      → Remembers (Some v) (Some (before ++ (triggers_seen v gs ++ behind))) seen gs

-- what a register does: it holds what it held, has seen its triggers, and its row was added to the wish
pub record DoesRow (past : Option Valuation) (now : Valuation) (args : List Range) (t : Instant) (p : Part) (gs : List TriggerRow) (old new : Passed) : Type 0 where
  pub held : new.held ≡ old.held
  pub seen : new.seen ≡ old.seen ++ triggers_seen now gs
  pub wish : new.wish ≡ row_made past now args t old.wish (registered p gs)

-- A register does what its row says, whatever it remembers of the previous run.
abbrev pub RegistersDoRows : Type 0
RegistersDoRows = (past : Option Valuation) (now : Valuation) (args : List Range) (t : Instant) (memory : Option (List Bool)) (k : Knowledge) (to : OperandText) (triggers : List TriggerText) (old : Passed)
    (p : Part) (gs : List TriggerRow) → IsHeld now args k old.held → part_known k to.value ≡ Some p → triggers_known k triggers ≡ Some gs → Remembers past memory old.seen gs →
    DoesRow past now args t p gs old (triggers_from memory t to false old triggers)

-- A drive does what its row says, where its condition is of one bit.
abbrev pub DrivesDoRows : Type 0
DrivesDoRows = (past : Option Valuation) (now : Valuation) → IsFitting now → (args : List Range) (t : Instant) (k : Knowledge) (e : Env) (w : Wish) (to : OperandText) (value after : List ℕ)
    (cond : Option (List ℕ)) (d : Drive) → IsHeld now args k e →
    drive_row (condition_known k cond) (part_known k to.value) (value_known k value) (value_known k after) ≡ Some (driven_by d) → IsCondition d.cond →
    unwrap_or (driven t e w to value after cond) w ≡ row_made past now args t w (driven_by d)

-- An operation on values gives what its term means, where the operands fit.
abbrev pub OperationsDoTerms : Type 0
OperationsDoTerms = (u : UnitText) (now : Valuation) → IsFitting now → (args : List Range) (k : Knowledge) (e : Env) (o : Op) (operands : List OperandText) (ts : List Tree) → IsHeld now args k e →
    values_known k operands ≡ Some ts → IsTyped (operation_on o ts) →
    effect.operated u e o operands ≡ Some (held_as (mean now now) (range_in args) (known_value (read_operation o ts)))

-- A probe gives the value of its part, whose type it writes.
abbrev pub ProbesDoTerms : Type 0
ProbesDoTerms = (args : List Range) (now : List Bool) (k : Knowledge) (e : Env) (s : OperandText) (p : Part) → IsHeld (reads args now) args k e → part_known k s.value ≡ Some p → s.ty ≡ Some (signal_type p.ty) →
    effect.probed now e s ≡ Some (held_as (mean (reads args now) (reads args now)) (range_in args) (known_value (now_of p)))
