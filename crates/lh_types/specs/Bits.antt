-- The bits of a value, the value that bits are, and at how many places two lists of bits differ.
use Rattle.std.specs.Prelude.{ℕ, ◌+◌, ◌*◌, ◌/◌, ◌%◌, Bool, true, false, nat_eq, List, [], ◌∷◌, ◌++◌, take, drop}
use Rattle.std.proofs.Common.{zero, suc}
use Rattle.lh_types.specs.Types.{TypeTree, TypeRow, int_type, time_type, void_type, array_type, tuple_type, signal_type, pointer_type, no_types, more_types, bit_count}
use Rattle.lh_types.specs.Values.{Datum, DatumRow, int_value, time_value, array_value, tuple_value, no_values, more_values}

-- the lowest w bits of a number, least significant first
abbrev pub number_bits : ℕ → ℕ → List Bool
number_bits zero n = []
number_bits (suc w) n = nat_eq (n % 2) 1 ∷ number_bits w (n / 2)

-- the number of these bits, least significant first
abbrev pub bits_number : List Bool → ℕ
bits_number [] = 0
bits_number (true ∷ bs) = 2 * bits_number bs + 1
bits_number (false ∷ bs) = 2 * bits_number bs

abbrev mutual
  -- the bits of a value: an integer least significant first, arrays and structs part by part
  pub value_bits : Datum → List Bool
  value_bits (int_value w b) = number_bits w b
  value_bits (time_value d) = []
  value_bits (array_value vs) = row_bits vs
  value_bits (tuple_value vs) = row_bits vs

  -- the bits of each in order
  pub row_bits : DatumRow → List Bool
  row_bits no_values = []
  row_bits (more_values v vs) = value_bits v ++ row_bits vs

-- n parts of w bits each, read from the front of the bits
abbrev pub repeat_parts : ℕ → (List Bool → Datum) → ℕ → List Bool → DatumRow
repeat_parts zero f w bs = no_values
repeat_parts (suc n) f w bs = more_values (f (take w bs)) (repeat_parts n f w (drop w bs))

abbrev mutual
  -- the value of a data type that stands at the front of the bits
  pub value_from_bits : TypeTree → List Bool → Datum
  value_from_bits (int_type n) bs = int_value n (bits_number (take n bs))
  value_from_bits (array_type n t) bs = array_value (repeat_parts n (value_from_bits t) (bit_count t) bs)
  value_from_bits (tuple_type ts) bs = tuple_value (row_from_bits ts bs)
  value_from_bits time_type bs = int_value 0 0
  value_from_bits void_type bs = int_value 0 0
  value_from_bits (signal_type t) bs = value_from_bits t bs
  value_from_bits (pointer_type t) bs = int_value 0 0

  -- the values of these types that stand one after the other at the front of the bits
  pub row_from_bits : TypeRow → List Bool → DatumRow
  row_from_bits no_types bs = no_values
  row_from_bits (more_types t ts) bs = more_values (value_from_bits t (take (bit_count t) bs)) (row_from_bits ts (drop (bit_count t) bs))

-- 1 where two bits differ
abbrev pub bit_differs : Bool → Bool → ℕ
bit_differs true true = 0
bit_differs true false = 1
bit_differs false true = 1
bit_differs false false = 0

-- at how many places two lists of bits differ
abbrev pub differing : List Bool → List Bool → ℕ
differing [] ys = 0
differing (x ∷ xs) [] = 0
differing (x ∷ xs) (y ∷ ys) = bit_differs x y + differing xs ys
