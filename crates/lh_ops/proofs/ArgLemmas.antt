-- Arguments as the code reads them.
use Rattle.std.proofs.Common.{◌≡◌, ◌≢◌, ℕ, zero, suc, ◌+◌, ◌-◌, ◌*◌, ◌^◌, ◌≤◌, ◌<◌, List, [], ◌∷◌, ◌++◌, length, map, get_or, take, drop, set, Option, Some, None, Bool, true, false, ◌&&◌, leb, ltb, refl, sym, ap, ◌∙◌, subst, arith, inl, inr}
use Rattle.std.specs.Prelude.{option_map}
use Rattle.std.proofs.lemmas.Bool.{ltb-true, leb-true, and_parts}
use Rattle.std.proofs.lemmas.List.{length-map, get_or-map, take-map, drop-map}
use Rattle.lh_types.specs.Types.{TypeTree, TypeRow, int_type, time_type, array_type, tuple_type, no_types, more_types, row_of, bit_count}
use Rattle.lh_types.specs.Values.{Datum, DatumRow, int_value, time_value, array_value, tuple_value, no_values, more_values, data_row}
use Rattle.lh_types.specs.ValueOf.{datum_of}
use Rattle.lh_types.specs.Fits.{FitsType, FitsRow, PartsFit}
use Rattle.lh_types.specs.Parts.{Part, parts_of, part_by, part_if, part_beyond, field_part}
use Rattle.lh_types.specs.Apply.{no_value, field_at, slice_at, with_field, with_slice}
use Rattle.lh_types.specs.ApplyTypes.{FitsOp, PartHasType, Shifts}
use Rattle.lh_types.specs.declared.part.Step.TheVariants.{Field, Slice}
use Rattle.lh_types.specs.declared.op.Op.{Op}
use Rattle.lh_types.specs.declared.op.Op.TheVariants.{Eq, Neq, Shl, Shr, Extf, Exts, Insf, Inss, Repeat}
use Rattle.lh_types.specs.declared.val.Val.{Val}
use Rattle.lh_types.proofs.DatumRows.{parts_of-data_row, length-parts_of}
use Rattle.lh_ops.specs.Operands.{width_of, number_of, parts_within}
use Rattle.lh_ops.proofs.FitLemmas.{IntegerArgs, one_arg, two_args}

-- ---- how many arguments there are

row_length : (vs : List Datum) (ts : List TypeTree) → FitsRow (data_row vs) (row_of ts) → length vs ≡ length ts
row_length [] [] f = refl
row_length [] (t ∷ ts) f = absurd f
row_length (v ∷ vs) [] f = absurd f
row_length (v ∷ vs) (t ∷ ts) f = ap suc (row_length vs ts f.1)

pub args_length : (xs : List Val) (ts : List TypeTree) → FitsRow (data_row (map datum_of xs)) (row_of ts) → length xs ≡ length ts
args_length xs ts f = sym (length-map xs datum_of) ∙ row_length (map datum_of xs) ts f

shift_length : (xs : List Val) (ts : List TypeTree) (r : TypeTree) → FitsRow (data_row (map datum_of xs)) (row_of ts) → Shifts ts r → 2 < length xs
shift_length xs ts r f k = omega (arith, args_length xs ts f, ap length k.2)

pub shl_length : (xs : List Val) → FitsOp Shl (map datum_of xs) → 2 < length xs
shl_length xs f = shift_length xs f.types f.gives f.values_fit f.row

pub shr_length : (xs : List Val) → FitsOp Shr (map datum_of xs) → 2 < length xs
shr_length xs f = shift_length xs f.types f.gives f.values_fit f.row

-- ---- integers

first_is : (xs : List Val) (v : Val) (d : Datum) (ds : List Datum) → map datum_of xs ≡ d ∷ ds → v ≡ get_or xs 0 v → datum_of v ≡ d
first_is [] v d ds e p = cc
first_is (x ∷ xs) v d ds e p = cc

second_is : (xs : List Val) (v : Val) (d e : Datum) (ds : List Datum) → map datum_of xs ≡ d ∷ e ∷ ds → v ≡ get_or xs 1 v → datum_of v ≡ e
second_is [] v d e ds q p = cc
second_is (x ∷ []) v d e ds q p = cc
second_is (x ∷ y ∷ xs) v d e ds q p = cc

-- two integers: what the code reads of them
module _ (xs : List Val) (v w : Val) (of a b : ℕ) (args : IntegerArgs (map datum_of xs)) (two : length xs ≢ 1) (v_is : v ≡ get_or xs 0 v) (w_is : w ≡ get_or xs 1 w)
    (of_is : of ≡ width_of (datum_of v)) (a_is : a ≡ number_of (datum_of v)) (b_is : b ≡ number_of (datum_of w)) where
  all_two : map datum_of xs ≡ int_value args.n args.a ∷ int_value args.n args.b ∷ []
  all_two = elim args.is [ inl k ↦ absurd (two (sym (length-map xs datum_of) ∙ ap length k.0)) | inr k ↦ k ]

  pub width_is : of ≡ args.n
  width_is = of_is ∙ ap width_of (first_is xs v _ _ all_two v_is)

  pub first_number : a ≡ args.a
  first_number = a_is ∙ ap number_of (first_is xs v _ _ all_two v_is)

  pub second_number : b ≡ args.b
  second_number = b_is ∙ ap number_of (second_is xs w _ _ _ all_two w_is)

  pub width_in : (1 ≤ of) × (of ≤ 128)
  width_in = rw width_is (args.low, args.high)

  pub numbers_in : (a < 2 ^ of) × (b < 2 ^ of)
  numbers_in = rw (width_is, first_number, second_number) (args.below_a, args.below_b)

  pub both_are : map datum_of xs ≡ int_value of a ∷ int_value of b ∷ []
  both_are = rw (width_is, first_number, second_number) all_two

-- ---- parts

-- what a step leads to, where it fits
there : (b : Bool) (lo : ℕ) (t r : TypeTree) → option_map (λ p. p.of) (part_if b lo t) ≡ Some r → (b ≡ true) × (t ≡ r)
there true lo t r e = (refl, cc)
there false lo t r e = cc

pub element_part : (n : ℕ) (t : TypeTree) (k : ℕ) (r : TypeTree) → PartHasType (array_type n t) (Field k) r → (k < n) × (t ≡ r)
element_part n t k r h = let e = there (ltb k n) (k * bit_count t) t r h in (ltb-true k n e.0, e.1)

pub bits_part : (w o n : ℕ) (r : TypeTree) → PartHasType (int_type w) (Slice o n) r → (1 ≤ n) × (o + n ≤ w) × (int_type n ≡ r)
bits_part w o n r h = let e = there (leb 1 n && leb (o + n) w) o (int_type n) r h in let b = and_parts (leb 1 n) (leb (o + n) w) e.0 in (leb-true 1 n b.0, leb-true (o + n) w b.1, e.1)

pub elements_part : (m : ℕ) (t : TypeTree) (o n : ℕ) (r : TypeTree) → PartHasType (array_type m t) (Slice o n) r → (1 ≤ n) × (o + n ≤ m) × (array_type n t ≡ r)
elements_part m t o n r h = let e = there (leb 1 n && leb (o + n) m) (o * bit_count t) (array_type n t) r h in let b = and_parts (leb 1 n) (leb (o + n) m) e.0 in
    (leb-true 1 n b.0, leb-true (o + n) m b.1, e.1)

-- a value of the type is a value of an equal type
pub as_type : (x : Datum) (t r : TypeTree) → FitsType x t → t ≡ r → FitsType x r
as_type x t r f e = let F : TypeTree → Type 0 = FitsType x in subst F e f

pub beyond_of : (b : ℕ) (o : Option Part) → option_map (λ p. p.of) (option_map (part_beyond b) o) ≡ option_map (λ p. p.of) o
beyond_of b None = refl
beyond_of b (Some p) = refl

-- field k of a struct is there, and of its type
pub field_fits : (vs : DatumRow) (ts : TypeRow) (k : ℕ) (r : TypeTree) (d : Datum) → FitsRow vs ts → PartHasType (tuple_type ts) (Field k) r → (k < length (parts_of vs))
    × FitsType (get_or (parts_of vs) k d) r
field_fits no_values no_types k r d f h = cc
field_fits no_values (more_types t ts) k r d f h = absurd f
field_fits (more_values v vs) no_types k r d f h = absurd f
field_fits (more_values v vs) (more_types t ts) zero r d f h = (omega arith, as_type v t r f.0 cc)
field_fits (more_values v vs) (more_types t ts) (suc k) r d f h = let i = field_fits vs ts k r d f.1 (sym (beyond_of (bit_count t) (field_part ts k)) ∙ h) in (omega (arith, i.0), i.1)

-- element k of an array is there, and of its type
pub element_fits : (vs : DatumRow) (t : TypeTree) (k : ℕ) (d : Datum) → PartsFit vs t → k < length (parts_of vs) → FitsType (get_or (parts_of vs) k d) t
element_fits no_values t k d f h = absurd (omega arith)
element_fits (more_values v vs) t zero d f h = f.0
element_fits (more_values v vs) t (suc k) d f h = element_fits vs t k d f.1 (omega arith)

pub field_within : (x : Datum) (t : TypeTree) (k : ℕ) (r : TypeTree) → FitsType x t → PartHasType t (Field k) r → k < length (parts_within x)
field_within (int_value n a) (int_type m) k r f h = cc
field_within (time_value d) time_type k r f h = cc
field_within (array_value vs) (array_type n t) k r f h = let e = element_part n t k r h in omega (arith, length-parts_of vs, f.0, e.0)
field_within (tuple_value vs) (tuple_type ts) k r f h = (field_fits vs ts k r no_value f h).0
field_within _ _ k r f h = absurd f

pub slice_within : (vs : DatumRow) (t : TypeTree) (o n : ℕ) (r : TypeTree) → FitsType (array_value vs) t → PartHasType t (Slice o n) r → o + n ≤ length (parts_of vs)
slice_within vs (array_type m t) o n r f h = let e = elements_part m t o n r h in omega (arith, length-parts_of vs, f.0, e.1)
slice_within vs _ o n r f h = absurd f

-- ---- one and two arguments

pub fits_as : (vs : List Datum) (ts us : List TypeTree) → FitsRow (data_row vs) (row_of ts) → ts ≡ us → FitsRow (data_row vs) (row_of us)
fits_as vs ts us f e = let F : List TypeTree → Type 0 = λ ts. FitsRow (data_row vs) (row_of ts) in subst F e f

type_at : (x y : Datum) (t : TypeTree) → FitsType x t → x ≡ y → FitsType y t
type_at x y t f e = let F : Datum → Type 0 = λ x. FitsType x t in subst F e f

module _ (xs : List Val) (ts : List TypeTree) (t : TypeTree) (v : Val) (fits : FitsRow (data_row (map datum_of xs)) (row_of ts)) (ts_is : ts ≡ t ∷ []) (v_is : v ≡ get_or xs 0 v) where
  pub only_arg : map datum_of xs ≡ datum_of v ∷ []
  only_arg = let o = one_arg (map datum_of xs) t (fits_as _ _ _ fits ts_is) in o.is ∙ ap (λ x. x ∷ []) (sym (first_is xs v o.x [] o.is v_is))

  pub only_fits : FitsType (datum_of v) t
  only_fits = let o = one_arg (map datum_of xs) t (fits_as _ _ _ fits ts_is) in type_at _ _ t o.fits_x (sym (first_is xs v o.x [] o.is v_is))

module _ (xs : List Val) (ts : List TypeTree) (t u : TypeTree) (v w : Val) (fits : FitsRow (data_row (map datum_of xs)) (row_of ts)) (ts_is : ts ≡ t ∷ u ∷ []) (v_is : v ≡ get_or xs 0 v)
    (w_is : w ≡ get_or xs 1 w) where
  pub both_args : map datum_of xs ≡ datum_of v ∷ datum_of w ∷ []
  both_args = let o = two_args (map datum_of xs) t u (fits_as _ _ _ fits ts_is) in
      o.is ∙ ap (λ x. x ∷ o.y ∷ []) (sym (first_is xs v o.x _ o.is v_is)) ∙ ap (λ y. datum_of v ∷ y ∷ []) (sym (second_is xs w o.x o.y [] o.is w_is))

  pub fits_first : FitsType (datum_of v) t
  fits_first = let o = two_args (map datum_of xs) t u (fits_as _ _ _ fits ts_is) in type_at _ _ t o.fits_x (sym (first_is xs v o.x _ o.is v_is))

  pub fits_second : FitsType (datum_of w) u
  fits_second = let o = two_args (map datum_of xs) t u (fits_as _ _ _ fits ts_is) in type_at _ _ u o.fits_y (sym (second_is xs w o.x o.y [] o.is w_is))

-- ---- the parts that the code reads

length_of : (items : List Val) (ds : List Datum) → map datum_of items ≡ ds → length items ≡ length ds
length_of items ds e = sym (length-map items datum_of) ∙ ap length e

field_is : (x : Datum) (k : ℕ) → k < length (parts_within x) → part_by x (Field k) ≡ get_or (parts_within x) k no_value
field_is (int_value n a) k h = absurd (omega arith)
field_is (time_value d) k h = absurd (omega arith)
field_is (array_value r) k h = refl
field_is (tuple_value r) k h = refl

module _ (xs : List Val) (v : Val) (k : ℕ) (items : List Val) (args : FitsOp (Extf k) (map datum_of xs)) (v_is : v ≡ get_or xs 0 v) (items_are : map datum_of items ≡ parts_within (datum_of v)) where
  pub extf_within : k < length items
  extf_within = omega (arith, length_of items _ items_are, field_within (datum_of v) args.row.0 k args.gives (only_fits xs args.types args.row.0 v args.values_fit args.row.1 v_is) args.row.2)

  pub extf_is : (part : Val) → part ≡ get_or items k part → datum_of part ≡ field_at k (map datum_of xs)
  extf_is part p =
      let parts_within_k = field_within (datum_of v) args.row.0 k args.gives (only_fits xs args.types args.row.0 v args.values_fit args.row.1 v_is) args.row.2 in
      let e = ap (λ ds. field_at k ds) (only_arg xs args.types args.row.0 v args.values_fit args.row.1 v_is) in
      sym (e ∙ field_is (datum_of v) k parts_within_k ∙ ap (λ ds. get_or ds k no_value) (sym items_are) ∙ get_or-map datum_of items k part no_value extf_within ∙ ap datum_of (sym p))

module _ (xs : List Val) (v : Val) (o n : ℕ) (items : List Val) (r : List Datum) (args : FitsOp (Exts o n) (map datum_of xs)) (v_is : v ≡ get_or xs 0 v) (array : datum_of v ≡ array_value (data_row r))
    (items_are : map datum_of items ≡ r) where
  pub exts_within : o + n ≤ length items
  exts_within =
      let f = type_at _ _ args.row.0 (only_fits xs args.types args.row.0 v args.values_fit args.row.1 v_is) array in
      let w = slice_within (data_row r) args.row.0 o n args.gives f args.row.2 in
      omega (arith, w, length_of items r items_are, ap length (parts_of-data_row r))

  pub exts_is : (part : List Datum) → part ≡ map datum_of (take (o + n - o) (drop o items)) → array_value (data_row part) ≡ slice_at o n (map datum_of xs)
  exts_is part p =
      let e = only_arg xs args.types args.row.0 v args.values_fit args.row.1 v_is ∙ ap (λ x. x ∷ []) array in
      let c : o + n - o ≡ n = omega arith in
      rw (e, p, parts_of-data_row r, ← items_are, c) (simp (take-map, drop-map))

-- ---- the whole with a part replaced

insf_length : (xs : List Val) (ts : List TypeTree) (t u : TypeTree) → FitsRow (data_row (map datum_of xs)) (row_of ts) → ts ≡ t ∷ u ∷ [] → 1 < length xs
insf_length xs ts t u f e = omega (arith, args_length xs ts f, ap length e)

pub insf_two : (xs : List Val) (k : ℕ) → FitsOp (Insf k) (map datum_of xs) → 1 < length xs
insf_two xs k f = insf_length xs f.types f.gives f.row.0 f.values_fit f.row.1

pub inss_two : (xs : List Val) (o n : ℕ) → FitsOp (Inss o n) (map datum_of xs) → 1 < length xs
inss_two xs o n f = insf_length xs f.types f.gives f.row.0 f.values_fit f.row.1

module _ (xs : List Val) (v w : Val) (k : ℕ) (items : List Val) (r : List Datum) (args : FitsOp (Insf k) (map datum_of xs)) (v_is : v ≡ get_or xs 0 v) (w_is : w ≡ get_or xs 1 w)
    (items_are : map datum_of items ≡ r) where
  whole_fits : FitsType (datum_of v) args.gives
  whole_fits = fits_first xs args.types args.gives args.row.0 v w args.values_fit args.row.1 v_is w_is

  two : map datum_of xs ≡ datum_of v ∷ datum_of w ∷ []
  two = both_args xs args.types args.gives args.row.0 v w args.values_fit args.row.1 v_is w_is

  pub insf_within : parts_within (datum_of v) ≡ parts_of (data_row r) → k < length items
  insf_within e = omega (arith, length_of items r items_are, ap length (parts_of-data_row r), ap length e, field_within (datum_of v) args.gives k args.row.0 whole_fits args.row.2)

  pub insf_array : (whole : List Datum) → datum_of v ≡ array_value (data_row r) → whole ≡ set (map datum_of items) k (datum_of w) → array_value (data_row whole) ≡ with_field k (map datum_of xs)
  insf_array whole array e = rw (two, array, e, items_are, parts_of-data_row r) refl

  pub insf_tuple : (whole : List Datum) → datum_of v ≡ tuple_value (data_row r) → whole ≡ set (map datum_of items) k (datum_of w) → tuple_value (data_row whole) ≡ with_field k (map datum_of xs)
  insf_tuple whole tuple e = rw (two, tuple, e, items_are, parts_of-data_row r) refl

-- an array in which n elements are replaced, and the array of n elements
array_of : (w : Datum) (t : TypeTree) (n : ℕ) → FitsType w (array_type n t) → (r : DatumRow) × (w ≡ array_value r)
array_of (array_value r) t n f = (r, refl)
array_of (int_value m a) t n f = absurd f
array_of (time_value d) t n f = absurd f
array_of (tuple_value r) t n f = absurd f

new_elements : (x y : Datum) (r : DatumRow) (t u : TypeTree) (o n : ℕ) → x ≡ array_value r → FitsType x t → FitsType y u → PartHasType t (Slice o n) u → (s : DatumRow) × (y ≡ array_value s)
new_elements (array_value vs) y r (array_type m t) u o n e f g h = array_of y t n (as_type y u (array_type n t) g (sym (elements_part m t o n u h).2))
new_elements (array_value vs) y r _ u o n e f g h = absurd f
new_elements _ y r t u o n e f g h = cc

module _ (xs : List Val) (v w : Val) (o n : ℕ) (items new : List Val) (r : List Datum) (args : FitsOp (Inss o n) (map datum_of xs)) (v_is : v ≡ get_or xs 0 v) (w_is : w ≡ get_or xs 1 w)
    (array : datum_of v ≡ array_value (data_row r)) (items_are : map datum_of items ≡ r) (new_are : map datum_of new ≡ parts_within (datum_of w)) where
  old_fits : FitsType (datum_of v) args.gives
  old_fits = fits_first xs args.types args.gives args.row.0 v w args.values_fit args.row.1 v_is w_is

  new_fits : FitsType (datum_of w) args.row.0
  new_fits = fits_second xs args.types args.gives args.row.0 v w args.values_fit args.row.1 v_is w_is

  pub inss_within : (o ≤ o + n) × (o + n ≤ length items)
  inss_within =
      let w = slice_within (data_row r) args.gives o n args.row.0 (type_at _ _ args.gives old_fits array) args.row.2 in
      (omega arith, omega (arith, w, length_of items r items_are, ap length (parts_of-data_row r)))

  pub inss_array : (whole : List Datum) → whole ≡ take o (map datum_of items) ++ map datum_of new ++ drop (o + n) (map datum_of items) → array_value (data_row whole) ≡ with_slice o n (map datum_of xs)
  inss_array whole e =
      let two = both_args xs args.types args.gives args.row.0 v w args.values_fit args.row.1 v_is w_is in
      let s = new_elements (datum_of v) (datum_of w) (data_row r) args.gives args.row.0 o n array old_fits new_fits args.row.2 in
      let parts : map datum_of new ≡ parts_of s.0 = new_are ∙ ap parts_within s.1 in
      rw (two, array, s.1, e, items_are, parts, parts_of-data_row r) refl

-- ---- eq, neq and repeat

fits_row : (op o : Op) (vs : List Datum) → op ≡ o → FitsOp op vs → FitsOp o vs
fits_row op o vs e f = let F : Op → Type 0 = λ op. FitsOp op vs in subst F e f

eq_two : (xs : List Val) → FitsOp Eq (map datum_of xs) → length xs ≡ 2
eq_two xs f = args_length xs f.types f.values_fit ∙ ap length f.row.1

neq_two : (xs : List Val) → FitsOp Neq (map datum_of xs) → length xs ≡ 2
neq_two xs f = args_length xs f.types f.values_fit ∙ ap length f.row.1

repeat_one : (xs : List Val) (n : ℕ) → FitsOp (Repeat n) (map datum_of xs) → length xs ≡ 1
repeat_one xs n f = args_length xs f.types f.values_fit ∙ ap length f.row.1

pub eq_length : (op : Op) (xs : List Val) → op ≡ Eq → FitsOp op (map datum_of xs) → length xs ≡ 2
eq_length op xs e f = eq_two xs (fits_row op Eq _ e f)

pub neq_length : (op : Op) (xs : List Val) → op ≡ Neq → FitsOp op (map datum_of xs) → length xs ≡ 2
neq_length op xs e f = neq_two xs (fits_row op Neq _ e f)

pub repeat_length : (op : Op) (xs : List Val) (n : ℕ) → op ≡ Repeat n → FitsOp op (map datum_of xs) → length xs ≡ 1
repeat_length op xs n e f = repeat_one xs n (fits_row op (Repeat n) _ e f)
