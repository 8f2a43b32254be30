-- The types that values and lists of types are read off by.
use Rattle.std.proofs.Common.{◌≡◌, ℕ, zero, suc, ◌<◌, ◌≤◌, List, [], ◌∷◌, length, map, take, refl, ap, sym, ◌∙◌, subst, Some, Result, IfOk, arith, slice_index_or, slice_get}
use Rattle.lh_types.specs.Types.{TypeTree, more_types, row_of, array_type}
use Rattle.lh_types.specs.Values.{Datum, array_value, data_row}
use Rattle.lh_types.specs.ValueOf.{datum_of}
use Rattle.lh_types.specs.Fits.{part_count}
use Rattle.lh_types.specs.declared.val.Val.{Val}
use Rattle.lh_term.specs.Tree.{tree_row}
use Rattle.lh_term.specs.Types.{value_type, first_type, value_types, type_in_row, types_of}
use Rattle.lh_term.specs.Arena.{trees_at}
use Rattle.lh_term.specs.declared.term.TermId.{TermId}
use Rattle.lh_term.specs.declared.term.TermNode.{TermNode}

pub row_index : (ts : List TypeTree) (k : ℕ) (d : TypeTree) → k < length ts → slice_index_or ts k d ≡ type_in_row (row_of ts) k
row_index [] k d h = absurd (omega arith)
row_index (u ∷ ts) zero d h = refl
row_index (u ∷ ts) (suc k) d h = row_index ts k d (omega arith)

pub types_in : (vs : List Val) → row_of (map (λ (v : Val). value_type (datum_of v)) vs) ≡ value_types (data_row (map datum_of vs))
types_in [] = refl
types_in (v ∷ vs) = ap (more_types (value_type (datum_of v))) (types_in vs)

count_row : (vs : List Val) → length vs ≡ part_count (data_row (map datum_of vs))
count_row [] = refl
count_row (v ∷ vs) = omega (arith, count_row vs)

-- the type of an array is that of as many of its first
pub array_of : (vs : List Val) (v : Val) → slice_get vs 0 ≡ Some v
    → array_type (length vs) (value_type (datum_of v)) ≡ array_type (part_count (data_row (map datum_of vs))) (first_type (data_row (map datum_of vs)))
array_of [] v e = cc
array_of (w ∷ vs) v e =
    let p : w ≡ v = cc in
    let q = count_row (w ∷ vs) in
    λ i. array_type (q i) (value_type (datum_of (sym p i)))

pub if_ok_eq : {E : Type 0} (r : Result TypeTree E) (u v : TypeTree) → u ≡ v → IfOk r (λ t. t ≡ u) → IfOk r (λ t. t ≡ v)
if_ok_eq r u v e h = let P : TypeTree → Type 0 = λ w. IfOk r (λ t. t ≡ w) in subst P e h

pub types_length : (ns : List TermNode) (xs : List TermId) → length (types_of (tree_row (trees_at ns xs))) ≡ length xs
types_length ns [] = refl
types_length ns (x ∷ xs) = omega (arith, types_length ns xs)

take_all : (vs : List Val) (i : ℕ) → length vs ≤ i → take i vs ≡ vs
take_all [] zero h = refl
take_all [] (suc i) h = refl
take_all (v ∷ vs) zero h = absurd (omega arith)
take_all (v ∷ vs) (suc i) h = ap (λ r. v ∷ r) (take_all vs i (omega arith))

-- all fields are there
pub all_types : (fields : List TypeTree) (vs : List Val) (ds : List Datum) (i : ℕ) → map datum_of vs ≡ ds → fields ≡ map (λ (v : Val). value_type (datum_of v)) (take i vs) → length vs ≤ i
    → row_of fields ≡ value_types (data_row ds)
all_types fields vs ds i w e h = ap row_of (e ∙ ap (map (λ (v : Val). value_type (datum_of v))) (take_all vs i h)) ∙ types_in vs ∙ ap (λ xs. value_types (data_row xs)) w

-- the array is of as many of the first
pub whole_array : (vs : List Val) (ds : List Datum) (v : Val) (t : TypeTree) → map datum_of vs ≡ ds → slice_get vs 0 ≡ Some v → t ≡ value_type (datum_of v)
    → array_type (length vs) t ≡ value_type (array_value (data_row ds))
whole_array vs ds v t w at e = ap (array_type (length vs)) e ∙ array_of vs v at ∙ ap (λ xs. value_type (array_value (data_row xs))) w
