-- The whole with an element or a field replaced.
use Rattle.std.proofs.Common.{◌≡◌, ℕ, ◌<◌, List, [], ◌∷◌, length, set, refl}
use Rattle.lh_types.specs.Values.{Datum, array_value, tuple_value, data_row}
use Rattle.lh_types.specs.Apply.{apply}
use Rattle.lh_types.specs.ApplyTypes.{FitsOp}
use Rattle.lh_types.specs.declared.op.Op.TheVariants.{Insf}
use Rattle.lh_types.proofs.DatumRows.{parts_of-data_row}
use Rattle.lh_ops.specs.Operands.{parts_within}
use Rattle.lh_ops.proofs.ArgLemmas.{fits_as, field_within}

pub field_there : (k : ℕ) (x y : Datum) → FitsOp (Insf k) (x ∷ y ∷ []) → k < length (parts_within x)
field_there k x y f = field_within x f.gives k f.row.0 (fits_as (x ∷ y ∷ []) f.types (f.gives ∷ f.row.0 ∷ []) f.values_fit f.row.1).0 f.row.2

pub element_there : (k : ℕ) (x y : Datum) (parts : List Datum) → FitsOp (Insf k) (x ∷ y ∷ []) → x ≡ array_value (data_row parts) → k < length parts
element_there k x y parts f e = rw (e, parts_of-data_row parts) at (field_there k x y f)

pub member_there : (k : ℕ) (x y : Datum) (parts : List Datum) → FitsOp (Insf k) (x ∷ y ∷ []) → x ≡ tuple_value (data_row parts) → k < length parts
member_there k x y parts f e = rw (e, parts_of-data_row parts) at (field_there k x y f)

pub put_array : (k : ℕ) (x y : Datum) (parts whole : List Datum) → x ≡ array_value (data_row parts) → whole ≡ set parts k y → array_value (data_row whole) ≡ apply (Insf k) (x ∷ y ∷ [])
unfolding apply
put_array k x y parts whole e w = rw (e, w, parts_of-data_row parts) refl

pub put_struct : (k : ℕ) (x y : Datum) (parts whole : List Datum) → x ≡ tuple_value (data_row parts) → whole ≡ set parts k y → tuple_value (data_row whole) ≡ apply (Insf k) (x ∷ y ∷ [])
unfolding apply
put_struct k x y parts whole e w = rw (e, w, parts_of-data_row parts) refl
