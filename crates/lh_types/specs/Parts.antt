-- The parts of a data type: where they start, of which type they are, and their values.
use Rattle.std.specs.Prelude.{ℕ, ◌+◌, ◌*◌, ◌/◌, ◌%◌, ◌^◌, Bool, ◌&&◌, nat_lt, nat_le, if◌then◌else◌, List, [], ◌∷◌, ◌++◌, length, take, drop, slice_set, slice_index_or, Option, Some, None, option_map, option_and_then}
use Rattle.std.proofs.Common.{zero, suc}
use Rattle.lh_types.specs.Types.{TypeTree, TypeRow, int_type, array_type, tuple_type, no_types, more_types, bit_count}
use Rattle.lh_types.specs.Values.{Datum, DatumRow, int_value, array_value, tuple_value, no_values, more_values, data_row}
use Rattle.lh_types.specs.declared.part.Step.{Step}
use Rattle.lh_types.specs.declared.part.Step.TheVariants.{Field, Slice}
use Rattle.lh_types.specs.declared.part.Range.{Range}

-- a part of a type: its lowest bit within the whole, and its type
pub record Part : Type 0 where
  pub lo : ℕ
  pub of : TypeTree

-- the part, n bits further on
abbrev pub part_beyond : ℕ → Part → Part
part_beyond n p = record { lo = n + p.lo; of = p.of }

-- the part where the test holds
abbrev pub part_if : Bool → ℕ → TypeTree → Option Part
part_if b lo t = if b then Some (record { lo = lo; of = t }) else None

-- field k of a struct, which follows the fields before it
abbrev pub field_part : TypeRow → ℕ → Option Part
field_part no_types k = None
field_part (more_types t ts) zero = Some (record { lo = 0; of = t })
field_part (more_types t ts) (suc k) = option_map (part_beyond (bit_count t)) (field_part ts k)

-- the part that a step leads to: an element, a field, some bits of an integer, or some elements of an array
abbrev pub step_part : TypeTree → Step → Option Part
step_part (array_type n t) (Field k) = part_if (nat_lt k n) (k * bit_count t) t
step_part (tuple_type ts) (Field k) = field_part ts k
step_part (int_type n) (Slice at len) = part_if (nat_le 1 len && nat_le (at + len) n) at (int_type len)
step_part (array_type n t) (Slice at len) = part_if (nat_le 1 len && nat_le (at + len) n) (at * bit_count t) (array_type len t)
step_part _ _ = None

-- the part that steps lead to, one after the other
abbrev pub part_of : TypeTree → List Step → Option Part
part_of t [] = Some (record { lo = 0; of = t })
part_of t (s ∷ ss) = option_and_then (λ p. option_map (part_beyond p.lo) (part_of p.of ss)) (step_part t s)

-- the bits of a part
abbrev pub part_range : Part → Range
part_range p = record { lo = p.lo; len = bit_count p.of }

-- the bits that steps lead to, where each step fits
abbrev pub range_of : TypeTree → List Step → Option Range
range_of t ss = option_map part_range (part_of t ss)

-- the bits of a range
abbrev pub bits_within : ℕ → ℕ → List Bool → List Bool
bits_within lo len bs = take len (drop lo bs)

-- the bits with those from lo on replaced
abbrev pub bits_with : ℕ → List Bool → List Bool → List Bool
bits_with lo new bs = take lo bs ++ new ++ drop (lo + length new) bs

-- the parts of a row in order
abbrev pub parts_of : DatumRow → List Datum
parts_of no_values = []
parts_of (more_values v vs) = v ∷ parts_of vs

-- the part of a value that a step leads to
abbrev pub part_by : Datum → Step → Datum
part_by (array_value vs) (Field k) = slice_index_or (parts_of vs) k (int_value 0 0)
part_by (tuple_value vs) (Field k) = slice_index_or (parts_of vs) k (int_value 0 0)
part_by (int_value w b) (Slice at len) = int_value len (b / 2 ^ at % 2 ^ len)
part_by (array_value vs) (Slice at len) = array_value (data_row (take len (drop at (parts_of vs))))
part_by v _ = v

-- the value with the part that a step leads to replaced
abbrev pub with_part : Datum → Step → Datum → Datum
with_part (array_value vs) (Field k) v = array_value (data_row (slice_set (parts_of vs) k v))
with_part (tuple_value vs) (Field k) v = tuple_value (data_row (slice_set (parts_of vs) k v))
with_part (int_value w b) (Slice at len) (int_value n c) = int_value w (b / 2 ^ (at + len) * 2 ^ (at + len) + c * 2 ^ at + b % 2 ^ at)
with_part (array_value vs) (Slice at len) (array_value ws) = array_value (data_row (take at (parts_of vs) ++ parts_of ws ++ drop (at + len) (parts_of vs)))
with_part v _ _ = v

-- the part of a value that steps lead to, one after the other
abbrev pub part_along : Datum → List Step → Datum
part_along v [] = v
part_along v (s ∷ ss) = part_along (part_by v s) ss

-- the value with the part that steps lead to replaced
abbrev pub with_part_along : Datum → List Step → Datum → Datum
with_part_along v [] w = w
with_part_along v (s ∷ ss) w = with_part v s (with_part_along (part_by v s) ss w)
