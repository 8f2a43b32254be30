-- What is held by the ids of values, and what is held under their names.
use Rattle.std.specs.Prelude.{◌≡◌, ℕ, ◌<◌, List, [], ◌∷◌, length, map, replicate, Bool, true, Option, Some, None, slice_index_or, slice_set}
use Rattle.std.specs.Option.{option_and_then}
use Rattle.lh_time.specs.declared.Delay.{Delay}
use Rattle.lh_types.specs.Values.{Datum}
use Rattle.lh_types.specs.declared.part.Range.{Range}
use Rattle.lh_unit.specs.Held.{Held, Env, nothing_held, with_held, as_datum, as_cell, as_part, as_delay, as_test, datum_at, cell_at, part_at, delay_at, test_at, data_at, front}
use Rattle.lh_unit.specs.Effects.{condition_at}
use Rattle.lh_unit.specs.Hierarchy.{if_held}
use Rattle.lh_unit.specs.Arena.{Arena, IsArena, naming, unit_count, value_count}
use Rattle.lh_unit.specs.Naming.{value_text, maybe_text, operand_text}
use Rattle.lh_unit.specs.Within.{Each}
use Rattle.lh_unit.specs.declared.inst.ValueId.{ValueId}
use Rattle.lh_unit.specs.declared.inst.Typed.{Typed}

-- what is held by a value, if anything is
abbrev pub slot_at : List (Option Held) → ValueId → Option Held
slot_at slots v = slice_index_or slots v.0 None

-- Each value of the unit u has a slot, in which is what is held under its name.
pub record Holds (a : Arena) (u : ℕ) (slots : List (Option Held)) (e : Env) : Type 0 where
  pub long : length slots ≡ value_count a u
  pub each : (v : ValueId) → v.0 < length slots → slot_at slots v ≡ e (value_text (naming a u) v)

-- the value, what is stored in the variable, the part, the delay or the truth value that is held by a value
abbrev pub datum_in : List (Option Held) → ValueId → Option Datum
datum_in slots v = option_and_then as_datum (slot_at slots v)

abbrev pub cell_in : List (Option Held) → ValueId → Option Datum
cell_in slots v = option_and_then as_cell (slot_at slots v)

abbrev pub part_in : List (Option Held) → ValueId → Option Range
part_in slots v = option_and_then as_part (slot_at slots v)

abbrev pub delay_in : List (Option Held) → ValueId → Option Delay
delay_in slots v = option_and_then as_delay (datum_in slots v)

abbrev pub test_in : List (Option Held) → ValueId → Option Bool
test_in slots v = option_and_then as_test (datum_in slots v)

-- whether the operand of `if` is not 0; where there is none it holds
abbrev pub condition_in : List (Option Held) → Option ValueId → Option Bool
condition_in slots None = Some true
condition_in slots (Some v) = test_in slots v

-- the values of operands, where each is a value
abbrev pub data_in : List (Option Held) → List Typed → Option (List Datum)
data_in slots [] = Some []
data_in slots (o ∷ more) = front (datum_in slots o.value) (data_in slots more)

-- the values of one operand, of two, and of three
abbrev pub one_datum : Option Datum → Option (List Datum)
one_datum a = front a (Some [])

abbrev pub two_data : Option Datum → Option Datum → Option (List Datum)
two_data a b = front a (front b (Some []))

abbrev pub three_data : Option Datum → Option Datum → Option Datum → Option (List Datum)
three_data a b c = front a (front b (front c (Some [])))

-- the operand that may be absent has a slot
abbrev pub MaybeIn : List (Option Held) → Option ValueId → Type 0
MaybeIn slots None = Unit {0}
MaybeIn slots (Some v) = v.0 < length slots

-- with what an instruction gives held by its result, where both are there
abbrev pub given : List (Option Held) → (result : Option ValueId) → Option Held → List (Option Held)
given slots (Some v) (Some h) = slice_set slots v.0 (Some h)
given slots _ _ = slots

-- What is held by the ids of a unit's values is what is held under their names.
pub record SameHeld (a : Arena) (u : ℕ) (slots : List (Option Held)) (e : Env) : Type 0 where
  pub datum : (v : ValueId) → v.0 < length slots → datum_in slots v ≡ datum_at e (value_text (naming a u) v)
  pub cell : (v : ValueId) → v.0 < length slots → cell_in slots v ≡ cell_at e (value_text (naming a u) v)
  pub part : (v : ValueId) → v.0 < length slots → part_in slots v ≡ part_at e (value_text (naming a u) v)
  pub delay : (v : ValueId) → v.0 < length slots → delay_in slots v ≡ delay_at e (value_text (naming a u) v)
  pub test : (v : ValueId) → v.0 < length slots → test_in slots v ≡ test_at e (value_text (naming a u) v)
  pub condition : (v : Option ValueId) → MaybeIn slots v → condition_in slots v ≡ condition_at e (maybe_text (naming a u) v)
  pub values : (os : List Typed) → Each (λ (o : Typed). o.value.0 < length slots) os → data_in slots os ≡ data_at e (map (operand_text (naming a u)) os)

abbrev pub HoldsSame : Type 0
HoldsSame = (a : Arena) (u : ℕ) (slots : List (Option Held)) (e : Env) → Holds a u slots e → SameHeld a u slots e

-- Holding something more by a value is holding it under its name.
abbrev pub HoldsMore : Type 0
HoldsMore = (a : Arena) (u : ℕ) (slots : List (Option Held)) (e : Env) (v : ValueId) (h : Held) → IsArena a → u < unit_count a → Holds a u slots e → v.0 < length slots →
    Holds a u (slice_set slots v.0 (Some h)) (with_held e (value_text (naming a u) v) h)

-- So does what an instruction gives.
abbrev pub HoldsGiven : Type 0
HoldsGiven = (a : Arena) (u : ℕ) (slots : List (Option Held)) (e : Env) (r : Option ValueId) (h : Option Held) → IsArena a → u < unit_count a → Holds a u slots e → MaybeIn slots r →
    Holds a u (given slots r h) (if_held e (maybe_text (naming a u) r) h)

-- Where nothing is held by any value, nothing is held under any name.
abbrev pub HoldsNothing : Type 0
HoldsNothing = (a : Arena) (u : ℕ) → Holds a u (replicate (value_count a u) None) nothing_held
