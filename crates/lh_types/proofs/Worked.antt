-- A struct of an array of structs, with its bits and parts worked out by hand.
use Rattle.std.proofs.Common.{◌≡◌, [], ◌∷◌, Some, None, true, false, refl}
use Rattle.lh_types.specs.Types.{TypeTree, int_type, array_type, tuple_type, row_of, bit_count, depth_of}
use Rattle.lh_types.specs.Values.{int_value, tuple_value, data_row}
use Rattle.lh_types.specs.Bits.{value_bits, value_from_bits}
use Rattle.lh_types.specs.Parts.{range_of, part_by, with_part}
use Rattle.lh_types.specs.declared.part.Step.TheVariants.{Field, Slice}

-- {i3, [4 x {i2, i1}], i8}: bits 0 to 2, 3 to 14, 15 to 22
pair : TypeTree
pair = tuple_type (row_of (int_type 2 ∷ int_type 1 ∷ []))

nested : TypeTree
nested = tuple_type (row_of (int_type 3 ∷ array_type 4 pair ∷ int_type 8 ∷ []))

nested_bits : bit_count nested ≡ 23
unfolding nested pair
nested_bits = refl

nested_depth : depth_of nested ≡ 4
unfolding nested pair
nested_depth = refl

-- field 1, element 2, field 1 is the one bit 3 + 2 * 3 + 2
one_bit : range_of nested (Field 1 ∷ Field 2 ∷ Field 1 ∷ []) ≡ Some (record { lo = 11; len = 1 })
unfolding nested pair
one_bit = refl

-- the two elements from element 1 on, of which the last starts at bit 3 + 2 * 3
two_elements : range_of nested (Field 1 ∷ Slice 1 2 ∷ Field 1 ∷ []) ≡ Some (record { lo = 9; len = 3 })
unfolding nested pair
two_elements = refl

-- the top half of the last field
four_bits : range_of nested (Field 2 ∷ Slice 4 4 ∷ []) ≡ Some (record { lo = 19; len = 4 })
unfolding nested pair
four_bits = refl

no_field : range_of nested (Field 3 ∷ []) ≡ None
unfolding nested pair
no_field = refl

past_the_end : range_of nested (Field 2 ∷ Slice 5 4 ∷ []) ≡ None
unfolding nested pair
past_the_end = refl

empty_slice : range_of nested (Field 2 ∷ Slice 5 0 ∷ []) ≡ None
unfolding nested pair
empty_slice = refl

slice_of_struct : range_of nested (Slice 0 1 ∷ []) ≡ None
unfolding nested pair
slice_of_struct = refl

-- 6 in three bits, then 1 in two
low_first : value_bits (tuple_value (data_row (int_value 3 6 ∷ int_value 2 1 ∷ []))) ≡ false ∷ true ∷ true ∷ true ∷ false ∷ []
low_first = refl

read_back : value_from_bits (tuple_type (row_of (int_type 3 ∷ int_type 2 ∷ []))) (false ∷ true ∷ true ∷ true ∷ false ∷ []) ≡ tuple_value (data_row (int_value 3 6 ∷ int_value 2 1 ∷ []))
read_back = refl

-- bits 2 to 5 of 0b10110100 are 0b1101; with 0b0010 in their place it is 0b10001000
middle : part_by (int_value 8 180) (Slice 2 4) ≡ int_value 4 13
middle = refl

middle_replaced : with_part (int_value 8 180) (Slice 2 4) (int_value 4 2) ≡ int_value 8 136
middle_replaced = refl
