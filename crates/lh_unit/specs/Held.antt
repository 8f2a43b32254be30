-- What a unit holds under the names of its values.
use Rattle.std.specs.Prelude.{ℕ, List, [], ◌∷◌, Bool, not, nat_eq, if◌then◌else◌, Option, Some, None}
use Rattle.std.specs.Option.{option_and_then}
use Rattle.lh_time.specs.declared.Delay.{Delay}
use Rattle.lh_types.specs.Values.{Datum, int_value, time_value}
use Rattle.lh_types.specs.Parts.{bits_within}
use Rattle.lh_types.specs.declared.part.Range.{Range}
use Rattle.lh_unit.specs.Contents.{OperandText, ArgText}
use Rattle.lh_unit_names.specs.Names.{same_name}

-- a data value or a time, a variable with what is stored in it, or a part of the signals
pub data Held : Type 0 where
  datum_held : Datum → Held
  cell_held : Datum → Held
  part_held : Range → Held

-- what is held under each name, if anything is
abbrev pub Env : Type 0
Env = List ℕ → Option Held

-- nothing is held under any name
abbrev pub nothing_held : Env
nothing_held n = None

-- with this held under a name, in place of what was held there
abbrev pub with_held : Env → List ℕ → Held → Env
with_held e n h m = if same_name n m then Some h else e m

-- the same for the result of an instruction, if it names one
abbrev pub with_result : Env → Option (List ℕ) → Held → Env
with_result e None h = e
with_result e (Some n) h = with_held e n h

-- it is a data value or a time
abbrev pub as_datum : Held → Option Datum
as_datum (datum_held d) = Some d
as_datum _ = None

-- what is stored in it, where it is a variable
abbrev pub as_cell : Held → Option Datum
as_cell (cell_held d) = Some d
as_cell _ = None

-- it is a part of the signals
abbrev pub as_part : Held → Option Range
as_part (part_held r) = Some r
as_part _ = None

-- the delay that a value is
abbrev pub as_delay : Datum → Option Delay
as_delay (time_value d) = Some d
as_delay _ = None

-- whether an integer is not 0
abbrev pub as_test : Datum → Option Bool
as_test (int_value w b) = Some (not (nat_eq b 0))
as_test _ = None

-- the data value or time that is held under this name
abbrev pub datum_at : Env → List ℕ → Option Datum
datum_at e n = option_and_then as_datum (e n)

-- what is stored in the variable of this name
abbrev pub cell_at : Env → List ℕ → Option Datum
cell_at e n = option_and_then as_cell (e n)

-- the part of the signals that is held under this name
abbrev pub part_at : Env → List ℕ → Option Range
part_at e n = option_and_then as_part (e n)

-- the delay that is held under this name
abbrev pub delay_at : Env → List ℕ → Option Delay
delay_at e n = option_and_then as_delay (datum_at e n)

-- whether the value that is held under this name is not 0
abbrev pub test_at : Env → List ℕ → Option Bool
test_at e n = option_and_then as_test (datum_at e n)

-- one more in front, where each is there
abbrev pub front : {A : Type 0} → Option A → Option (List A) → Option (List A)
front (Some x) (Some xs) = Some (x ∷ xs)
front _ _ = None

-- the values of operands, where each is a value
abbrev pub data_at : Env → List OperandText → Option (List Datum)
data_at e [] = Some []
data_at e (o ∷ more) = front (datum_at e o.value) (data_at e more)

-- the parts of names, where each is a part
abbrev pub parts_at : Env → List (List ℕ) → Option (List Range)
parts_at e [] = Some []
parts_at e (n ∷ more) = front (part_at e n) (parts_at e more)

-- with the arguments of a unit held under their names
abbrev pub with_args : Env → List ArgText → List Held → Env
with_args e [] hs = e
with_args e (a ∷ more) [] = e
with_args e (a ∷ more) (h ∷ hs) = with_args (with_held e a.name h) more hs

-- the bits of a part
abbrev pub bits_in : List Bool → Range → List Bool
bits_in now r = bits_within r.lo r.len now
