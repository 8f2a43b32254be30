-- What holds of each instruction of a well-formed module: its row, its part, what its text wrote, and the type of its result.
use Rattle.std.specs.Prelude.{◌≡◌, ℕ, ◌<◌, ◌^◌, List, [], ◌∷◌, Some}
use Rattle.lh_types.specs.Values.{Datum, int_value}
use Rattle.lh_types.specs.Classes.{class_of}
use Rattle.lh_types.specs.declared.op.Op.{Op}
use Rattle.lh_types.specs.declared.op.OpClass.{OpClass}
use Rattle.lh_types.specs.declared.op.OpClass.TheVariants as class
use Rattle.lh_unit.specs.Contents.{OperandText, InstText, const_text, pure_text, LineText, UnitText}
use Rattle.lh_unit.specs.Typing.{value_type, result_type}
use Rattle.lh_types.specs.ApplyTypes.{FitsOp}
use Rattle.lh_unit.specs.Held.{Env, data_at}
use Rattle.lh_verify_laws.specs.Operands.{RowIs}
use Rattle.lh_eval.specs.Fitting.{Fits}
use Rattle.lh_verify_laws.specs.Parts.{HasPart}

-- a constant is below 2 ^ its width
abbrev pub IsWithinWidth : Datum → Type 0
IsWithinWidth (int_value n bits) = bits < 2 ^ n
IsWithinWidth _ = Unit {0}

-- as many operands as the class takes, which the types alone do not tell
abbrev pub ClassHasOperands : OpClass → List OperandText → Type 0
ClassHasOperands class.Unary args = (x : OperandText) × (args ≡ x ∷ [])
ClassHasOperands class.Binary args = (x y : OperandText) × (args ≡ x ∷ y ∷ [])
ClassHasOperands class.Relation args = (x y : OperandText) × (args ≡ x ∷ y ∷ [])
ClassHasOperands class.Equality args = (x y : OperandText) × (args ≡ x ∷ y ∷ [])
ClassHasOperands class.Shift args = Unit {0}
ClassHasOperands class.Select args = Unit {0}
ClassHasOperands (class.TakePart s) args = Unit {0}
ClassHasOperands (class.PutPart s) args = Unit {0}
ClassHasOperands class.Array args = Unit {0}
ClassHasOperands (class.Repeat n) args = ((x : OperandText) × (args ≡ x ∷ [])) × (0 < n)
ClassHasOperands class.Tuple args = Unit {0}

-- as many operands as the operation takes
abbrev pub HasOperands : Op → List OperandText → Type 0
HasOperands o args = ClassHasOperands (class_of o) args

-- what the spelling of an instruction tells beyond its types
abbrev pub IsWrittenRight : InstText → Type 0
IsWrittenRight (const_text d) = IsWithinWidth d
IsWrittenRight (pure_text o args) = HasOperands o args
IsWrittenRight _ = Unit {0}

-- an instruction of a unit
pub record InstIsSound (u : UnitText) (l : LineText) : Type 0 where
  pub row : RowIs u l.inst
  pub part : HasPart u l.inst
  pub written : IsWrittenRight l.inst
  pub gives : (n : List ℕ) → l.result ≡ Some n → value_type u n ≡ result_type l.inst

-- Where what is held fits, the values of an operation's operands fit its row.
abbrev pub OperandsFitRows : Type 0
OperandsFitRows = (u : UnitText) (width : ℕ) (e : Env) (o : Op) (args : List OperandText) → Fits u width e → RowIs u (pure_text o args) → HasOperands o args → (ds : List Datum)
    → data_at e args ≡ Some ds → FitsOp o ds
