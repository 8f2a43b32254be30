-- What an instruction gives or drives, wherever it stands: operations, parts of signals, probes and drives.
use Rattle.std.specs.Prelude.{ℕ, ◌+◌, List, [], ◌∷◌, Bool, true, false, Option, Some, None}
use Rattle.std.specs.Option.{option_and_then, option_map}
use Rattle.lh_time.specs.declared.Instant.{Instant}
use Rattle.lh_time.specs.declared.Delay.{Delay}
use Rattle.lh_time.specs.Due.{due_of}
use Rattle.lh_types.specs.Types.{TypeTree, signal_type}
use Rattle.lh_types.specs.Values.{Datum}
use Rattle.lh_types.specs.Bits.{value_bits, value_from_bits}
use Rattle.lh_types.specs.Parts.{range_of}
use Rattle.lh_types.specs.Apply.{apply}
use Rattle.lh_types.specs.Wish.{Wish, with_drive}
use Rattle.lh_types.specs.Classes.{class_of, taken_step}
use Rattle.lh_types.specs.declared.op.Op.{Op}
use Rattle.lh_types.specs.declared.part.Step.{Step}
use Rattle.lh_types.specs.declared.part.Range.{Range}
use Rattle.lh_unit.specs.Contents.{OperandText, UnitText}
use Rattle.lh_unit.specs.Typing.{value_type, carried, or_else}
use Rattle.lh_unit.specs.Held.{Held, datum_held, part_held, Env, data_at, datum_at, delay_at, part_at, test_at, bits_in}

-- the step into a signal that an operation takes
abbrev pub step_of : Op → Option Step
step_of o = taken_step (class_of o)

-- a part of a part
abbrev pub within : Range → Range → Range
within whole r = record { lo = whole.lo + r.lo; len = r.len }

-- the part of a signal of this type that a step leads to
abbrev pub stepped : Option TypeTree → Option Range → Option Step → Option Held
stepped (Some (signal_type t)) (Some r) (Some s) = option_map (λ q. part_held (within r q)) (range_of t (s ∷ []))
stepped _ _ _ = None

-- the part of a signal that `extf` or `exts` names
abbrev pub signal_part : UnitText → Env → Op → List OperandText → Option Held
signal_part u e o (x ∷ []) = stepped (value_type u x.value) (part_at e x.value) (step_of o)
signal_part u e o _ = None

-- what an operation gives: of values a value, of a signal its part
abbrev pub operated : UnitText → Env → Op → List OperandText → Option Held
operated u e o args = or_else (option_map (λ ds. datum_held (apply o ds)) (data_at e args)) (signal_part u e o args)

-- the value that the bits of a part have
abbrev pub read_bits : List Bool → Option TypeTree → Option Range → Option Held
read_bits now (Some t) (Some r) = Some (datum_held (value_from_bits t (bits_in now r)))
read_bits now _ _ = None

-- what `prb` gives, where the signals have these bits
abbrev pub probed : List Bool → Env → OperandText → Option Held
probed now e s = read_bits now (option_and_then carried s.ty) (part_at e s.value)

-- whether the operand of `if` is not 0; where there is none it holds
abbrev pub condition_at : Env → Option (List ℕ) → Option Bool
condition_at e None = Some true
condition_at e (Some c) = test_at e c

-- the wish with one more drive, where its part, its value and its delay are there
abbrev pub drive_due : Instant → Wish → Option Range → Option Datum → Option Delay → Option Wish
drive_due t w (Some r) (Some v) (Some d) = Some (with_drive w (due_of t d) r.lo (value_bits v))
drive_due t w _ _ _ = None

-- a drive under a condition
abbrev pub drive_when : Option Bool → Wish → Option Wish → Option Wish
drive_when (Some true) w driven = driven
drive_when (Some false) w driven = Some w
drive_when None w driven = None

-- the wish after a `drv` at an instant
abbrev pub driven : Instant → Env → Wish → OperandText → (value after : List ℕ) → (cond : Option (List ℕ)) → Option Wish
driven t e w to value after cond = drive_when (condition_at e cond) w (drive_due t w (part_at e to.value) (datum_at e value) (delay_at e after))
