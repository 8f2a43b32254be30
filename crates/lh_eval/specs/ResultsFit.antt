-- What an instruction gives fits the type of its result, so that what is held still fits after it.
use Rattle.std.specs.Prelude.{◌≡◌, ℕ, List, length, Bool, Option, Some}
use Rattle.std.specs.Option.{option_and_then}
use Rattle.lh_types.specs.Types.{TypeTree}
use Rattle.lh_types.specs.Values.{Datum}
use Rattle.lh_types.specs.declared.op.Op.{Op}
use Rattle.lh_unit.specs.Contents.{OperandText, pure_text, prb_text, UnitText}
use Rattle.lh_unit.specs.Typing.{value_type, carried, constant_type, operation_type}
use Rattle.lh_unit.specs.Held.{Held, datum_held, Env}
use Rattle.lh_unit.specs.Effects.{operated, probed}
use Rattle.lh_unit.specs.Hierarchy.{if_held}
use Rattle.lh_verify_laws.specs.Operands.{RowIs}
use Rattle.lh_verify_laws.specs.Parts.{HasPart}
use Rattle.lh_eval.specs.Fitting.{FitsHeld, Fits}
use Rattle.lh_eval.specs.Sound.{IsWithinWidth, HasOperands}

-- where something is given and there is a type for it, it fits
abbrev pub GivenFits : (width : ℕ) → Option Held → Option TypeTree → Type 0
GivenFits width h ty = (x : Held) (t : TypeTree) → h ≡ Some x → ty ≡ Some t → FitsHeld width x t

-- a constant
abbrev pub ConstantsFit : Type 0
ConstantsFit = (width : ℕ) (d : Datum) → IsWithinWidth d → GivenFits width (Some (datum_held d)) (constant_type d)

-- what an operation gives, of values and of a signal
abbrev pub OperationsFit : Type 0
OperationsFit = (u : UnitText) (width : ℕ) (e : Env) (o : Op) (args : List OperandText) → Fits u width e → RowIs u (pure_text o args) → HasPart u (pure_text o args) → HasOperands o args
    → GivenFits width (operated u e o args) (operation_type o args)

-- what a probe gives
abbrev pub ProbesFit : Type 0
ProbesFit = (u : UnitText) (now : List Bool) (e : Env) (s : OperandText) → Fits u (length now) e → RowIs u (prb_text s) → GivenFits (length now) (probed now e s) (option_and_then carried s.ty)

-- where what is given under a name fits, what is held still fits
abbrev pub HeldStillFits : Type 0
HeldStillFits = (u : UnitText) (width : ℕ) (e : Env) (result : Option (List ℕ)) (h : Option Held) → Fits u width e → ((n : List ℕ) → result ≡ Some n → GivenFits width h (value_type u n))
    → Fits u width (if_held e result h)
