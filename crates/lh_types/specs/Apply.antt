-- The operations of the language on values: a row for each class, total.
use Rattle.std.specs.Prelude.{ℕ, ◌-◌, min, Bool, false, not, List, [], ◌∷◌, length, replicate, slice_index_or}
use Rattle.lh_types.specs.Values.{Datum, int_value, array_value, tuple_value, data_row}
use Rattle.lh_types.specs.SameValue.{same_datum}
use Rattle.lh_types.specs.Parts.{parts_of, part_by, with_part}
use Rattle.lh_types.specs.ApplyInt.{integer_row, row_width, truth, moved_up, moved_down}
use Rattle.lh_types.specs.Classes.{class_of}
use Rattle.lh_types.specs.declared.part.Step.{Step}
use Rattle.lh_types.specs.declared.part.Step.TheVariants.{Field, Slice}
use Rattle.lh_types.specs.declared.op.Op.{Op}
use Rattle.lh_types.specs.declared.op.Op.TheVariants.{Neq, Shr}
use Rattle.lh_types.specs.declared.op.OpClass.{OpClass}
use Rattle.lh_types.specs.declared.op.OpClass.TheVariants as class

-- what an operation gives on arguments that no row has
abbrev pub no_value : Datum
no_value = int_value 0 0

-- an integer of one bit
abbrev pub bit_value : Bool → Datum
bit_value b = int_value 1 (truth b)

-- not to uge on integers
abbrev pub integer_result : Op → List Datum → Datum
integer_result op (int_value n a ∷ []) = int_value (row_width op n) (integer_row op n a 0)
integer_result op (int_value n a ∷ int_value m b ∷ []) = int_value (row_width op n) (integer_row op n a b)
integer_result op _ = no_value

-- eq on any two values
abbrev pub equality : List Datum → Bool
equality (v ∷ w ∷ []) = same_datum v w
equality _ = false

-- shl and shr: the base b, what comes in h, and the amount, cut to the width
abbrev pub shifted : (ℕ → ℕ → ℕ → ℕ → ℕ) → List Datum → Datum
shifted move (int_value n b ∷ int_value m h ∷ int_value w k ∷ []) = int_value n (move n b h (min k n))
shifted move _ = no_value

-- mux: the element that the selector names, the last one past the end
abbrev pub selected : List Datum → Datum
selected (array_value vs ∷ int_value w s ∷ []) = slice_index_or (parts_of vs) (min s (length (parts_of vs) - 1)) no_value
selected _ = no_value

-- extf: element or field k
abbrev pub field_at : ℕ → List Datum → Datum
field_at k (v ∷ []) = part_by v (Field k)
field_at k _ = no_value

-- exts: n bits or elements from o
abbrev pub slice_at : ℕ → ℕ → List Datum → Datum
slice_at o n (v ∷ []) = part_by v (Slice o n)
slice_at o n _ = no_value

-- insf: the whole with element or field k replaced
abbrev pub with_field : ℕ → List Datum → Datum
with_field k (v ∷ w ∷ []) = with_part v (Field k) w
with_field k _ = no_value

-- inss: the whole with n bits or elements from o replaced
abbrev pub with_slice : ℕ → ℕ → List Datum → Datum
with_slice o n (v ∷ w ∷ []) = with_part v (Slice o n) w
with_slice o n _ = no_value

-- the array of n copies
abbrev pub repeated : ℕ → List Datum → Datum
repeated n (v ∷ []) = array_value (data_row (replicate n v))
repeated n _ = no_value

-- eq and neq
abbrev pub equality_result : Op → List Datum → Datum
equality_result Neq vs = bit_value (not (equality vs))
equality_result op vs = bit_value (equality vs)

-- shl and shr
abbrev pub shift_result : Op → List Datum → Datum
shift_result Shr vs = shifted moved_down vs
shift_result op vs = shifted moved_up vs

-- the part that a step leads to
abbrev pub part_taken : Step → List Datum → Datum
part_taken (Field k) vs = field_at k vs
part_taken (Slice o n) vs = slice_at o n vs

-- the whole with this part replaced
abbrev pub part_put : Step → List Datum → Datum
part_put (Field k) vs = with_field k vs
part_put (Slice o n) vs = with_slice o n vs

-- what an operation of a class gives
abbrev pub class_value : OpClass → Op → List Datum → Datum
class_value class.Unary op vs = integer_result op vs
class_value class.Binary op vs = integer_result op vs
class_value class.Relation op vs = integer_result op vs
class_value class.Equality op vs = equality_result op vs
class_value class.Shift op vs = shift_result op vs
class_value class.Select op vs = selected vs
class_value (class.TakePart s) op vs = part_taken s vs
class_value (class.PutPart s) op vs = part_put s vs
class_value class.Array op vs = array_value (data_row vs)
class_value (class.Repeat n) op vs = repeated n vs
class_value class.Tuple op vs = tuple_value (data_row vs)

-- the value of an operation
unfoldable pub apply : Op → List Datum → Datum
apply op vs = class_value (class_of op) op vs
