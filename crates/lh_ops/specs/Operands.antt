-- What the code reads of an operand, and how it puts a word together.
use Rattle.std.specs.Prelude.{ℕ, ◌+◌, ◌*◌, ◌/◌, ◌%◌, ◌^◌, List, []}
use Rattle.lh_types.specs.Values.{Datum, int_value, array_value, tuple_value}
use Rattle.lh_types.specs.Parts.{parts_of}

-- the width of an integer
abbrev pub width_of : Datum → ℕ
width_of (int_value n a) = n
width_of _ = 0

-- the number that an integer is
abbrev pub number_of : Datum → ℕ
number_of (int_value n a) = a
number_of _ = 0

-- the parts of an array or struct
abbrev pub parts_within : Datum → List Datum
parts_within (array_value vs) = parts_of vs
parts_within (tuple_value vs) = parts_of vs
parts_within _ = []

-- the n bits of a from bit o
abbrev pub bits_from : ℕ → ℕ → ℕ → ℕ
bits_from a o n = a / 2 ^ o % 2 ^ n

-- a with the n bits from bit o replaced by v
abbrev pub bits_replaced : ℕ → ℕ → ℕ → ℕ → ℕ
bits_replaced a v o n = a / 2 ^ (o + n) * 2 ^ (o + n) + v * 2 ^ o + a % 2 ^ o
