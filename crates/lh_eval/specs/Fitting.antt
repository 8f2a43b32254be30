-- When what is held fits: values and variables of their types, parts within the signals; and what an instruction asks of its operands.
use Rattle.std.specs.Prelude.{◌≡◌, ℕ, ◌+◌, ◌≤◌, ◌<◌, ◌^◌, List, length, Bool, true, false, Option, Some, None, Result, Ok, Err}
use Rattle.std.specs.Option.{option_and_then}
use Rattle.lh_types.specs.Types.{TypeTree, time_type, signal_type, pointer_type, IsData, bit_count}
use Rattle.lh_types.specs.Values.{Datum}
use Rattle.lh_types.specs.Fits.{FitsType, FitsData}
use Rattle.lh_types.specs.Bits.{value_bits}
use Rattle.lh_types.specs.ApplyTypes.{FitsOp}
use Rattle.lh_types.specs.declared.op.Op.{Op}
use Rattle.lh_types.specs.declared.part.Range.{Range}
use Rattle.lh_types.specs.declared.memory.NoMemory.{NoMemory}
use Rattle.lh_types.specs.Wish.{Wish}
use Rattle.lh_unit.specs.Contents.{UnitText}
use Rattle.lh_unit.specs.Typing.{value_type, carried}
use Rattle.lh_unit.specs.Held.{Held, datum_held, cell_held, part_held, Env}
use Rattle.lh_unit.specs.Arena.{Arena, naming, unit_text_at}
use Rattle.lh_unit.specs.Naming.{value_text}
use Rattle.lh_unit.specs.Within.{Each}
use Rattle.lh_unit.specs.declared.inst.ValueId.{ValueId}
use Rattle.lh_unit.specs.declared.inst.Typed.{Typed}
use Rattle.lh_eval.specs.Holding.{part_in, data_in}

-- a type that a value may have, within its limits
abbrev pub IsTypeWithinLimits : TypeTree → Type 0
IsTypeWithinLimits time_type = Unit {0}
IsTypeWithinLimits t = IsData t

-- what is held fits a type: a data value or a time, a variable with such a value, or a part of this many bits that has the type's width
abbrev pub FitsHeld : (width : ℕ) → Held → TypeTree → Type 0
FitsHeld width (datum_held d) t = IsTypeWithinLimits t × FitsType d t
FitsHeld width (cell_held d) (pointer_type t) = IsTypeWithinLimits t × FitsType d t
FitsHeld width (part_held r) (signal_type t) = IsData t × (r.len ≡ bit_count t) × (r.lo + r.len ≤ width)
FitsHeld width _ t = ⊥

-- Each value that is held fits the type of its name.
abbrev pub Fits : UnitText → (width : ℕ) → Env → Type 0
Fits u width e = (n : List ℕ) (h : Held) (t : TypeTree) → e n ≡ Some h → value_type u n ≡ Some t → FitsHeld width h t

-- a part of a signal that is held, from its lowest bit on as long as its type says, ends below bit 2 ^ 32
abbrev pub PartFits : (a : Arena) (u : ℕ) (slots : List (Option Held)) → ValueId → Type 0
PartFits a u slots v = (r : Range) (t : TypeTree) → part_in slots v ≡ Some r → value_type (unit_text_at a u) (value_text (naming a u) v) ≡ Some (signal_type t) → IsData t
    × (r.lo + bit_count t < 2 ^ 32)

-- what an operation asks of its operands: values fit the row, and so do parts of signals
pub record OperandsFit (a : Arena) (u : ℕ) (slots : List (Option Held)) (op : Op) (args : List Typed) : Type 0 where
  pub values : (ds : List Datum) → data_in slots args ≡ Some ds → FitsOp op ds
  pub parts : Each (λ (o : Typed). PartFits a u slots o.value) args

-- what a probe asks of its operand: the part is of the width of the type that is written, and lies within the signals
abbrev pub ProbeFits : (now : List Bool) → (slots : List (Option Held)) → Typed → Type 0
ProbeFits now slots s = (r : Range) (t : TypeTree) → part_in slots s.value ≡ Some r → option_and_then carried s.ty ≡ Some t → (r.len ≡ bit_count t) × (r.lo + r.len ≤ length now)

-- what a drive asks: the value is of a data type, and its bits, from the lowest bit of the part on, end below bit 2 ^ 32
abbrev pub DriveFits : Option Range → Option Datum → Type 0
DriveFits (Some r) (Some d) = FitsData d × (r.lo + length (value_bits d) < 2 ^ 32)
DriveFits _ _ = Unit {0}

-- what a drive answers: whether its part, its value, its delay and its condition are there; where one is not, nothing more is wished
abbrev pub Drives : Result Bool NoMemory → (driven : Option Wish) → (old new : Wish) → Type 0
Drives (Ok true) driven old new = driven ≡ Some new
Drives (Ok false) driven old new = (driven ≡ None) × (new ≡ old)
Drives (Err e) driven old new = Unit {0}
