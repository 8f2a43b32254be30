-- The value of an operation is of the row's type.
use Rattle.std.proofs.Common.{◌≡◌, ℕ, zero, suc, ◌+◌, ◌-◌, ◌*◌, ◌/◌, ◌%◌, ◌^◌, ◌≤◌, ◌<◌, min, List, [], ◌∷◌, ◌++◌, length, take, drop, set, replicate, Bool, true, false, cond, eqb, ℤ, pos, negsuc, neg_ℤ, ◌-ℤ◌, refl, sym, ap, ◌∙◌, subst, arith}
use Rattle.std.proofs.lemmas.Nat.{pow_pos, pow-add, mod_below, and_le_l, or_lt, xor_lt, shr_below, mul-add-lt}
use Rattle.std.proofs.lemmas.List.{length-take-le, length-drop, length-append, length-set, length-replicate}
use Rattle.std.proofs.Math.Nat.{div-le_self, mod-le, min-le_right}
use Rattle.lh_types.specs.Types.{TypeTree, TypeRow, int_type, time_type, array_type, tuple_type, no_types, more_types, row_of, AreData, bit_count}
use Rattle.lh_types.specs.Values.{Datum, DatumRow, int_value, time_value, array_value, tuple_value, no_values, more_values, data_row}
use Rattle.lh_types.specs.Fits.{FitsType, FitsRow, PartsFit}
use Rattle.lh_types.specs.Parts.{parts_of, part_by, with_part, field_part}
use Rattle.lh_types.specs.ApplyInt.{integer_row, row_width, class_width, truth, divided, wrapped, moved_up, moved_down}
use Rattle.lh_types.specs.Apply.{apply, class_value, bit_value, no_value, integer_result, equality_result, shift_result, shifted, selected, repeated, part_taken, part_put, field_at, slice_at, with_field, with_slice}
use Rattle.lh_types.specs.Classes.{class_of}
use Rattle.lh_types.specs.ApplyTypes.{PartHasType, ClassType}
use Rattle.lh_types.specs.declared.part.Step.{Step}
use Rattle.lh_types.specs.declared.part.Step.TheVariants.{Field, Slice}
use Rattle.lh_types.specs.declared.op.Op.{Op}
use Rattle.lh_types.specs.declared.op.Op.TheVariants.{Not, Neg, Add, Sub, Umul, Smul, Udiv, Sdiv, Umod, Smod, Urem, Srem, And, Or, Xor, Eq, Neq, Slt, Sgt, Sle, Sge, Ult, Ugt, Ule, Uge, Shl, Shr, Mux, Extf, Exts, Insf, Inss, Array, Repeat, Tuple}
use Rattle.lh_types.specs.declared.op.OpClass.{OpClass}
use Rattle.lh_types.proofs.DatumRows.{data_row-parts_of, part_count-data_row, length-parts_of}
use Rattle.lh_types.specs.declared.op.OpClass.TheVariants as class
use Rattle.lh_ops.specs.Laws.{ResultsFit, OneResultType}
use Rattle.lh_ops.proofs.FitLemmas.{int_fit, one_arg, two_args, three_args}
use Rattle.lh_ops.proofs.ShiftLemmas.{scaled_mod, replaced_below}
use Rattle.lh_ops.proofs.ArgLemmas.{element_part, bits_part, elements_part, as_type, field_fits, element_fits, fits_as, beyond_of}

-- ---- the integer rows

wrapped_below : (n : ℕ) (z : ℤ) → wrapped n z < 2 ^ n
wrapped_below n (pos m) = mod_below m (2 ^ n) (pow_pos n)
wrapped_below n (negsuc m) = omega (arith, pow_pos n)

divided_below : (n b r : ℕ) → r < 2 ^ n → divided b r < 2 ^ n
divided_below n b r h = elim (eqb b 0) as (λ t. cond t 0 r < 2 ^ n) [ true ↦ pow_pos n | false ↦ h ]

truth_below : (t : Bool) → truth t < 2 ^ 1
truth_below true = omega arith
truth_below false = omega arith

row_below : (op : Op) (n a b : ℕ) → a < 2 ^ n → b < 2 ^ n → integer_row op n a b < 2 ^ row_width op n
unfolding integer_row row_width
row_below Not n a b f g = omega (arith, pow_pos n)
row_below Neg n a b f g = wrapped_below n (neg_ℤ (pos a))
row_below Add n a b f g = mod_below (a + b) (2 ^ n) (pow_pos n)
row_below Sub n a b f g = wrapped_below n (pos a -ℤ pos b)
row_below Umul n a b f g = mod_below (a * b) (2 ^ n) (pow_pos n)
row_below Smul n a b f g = mod_below (a * b) (2 ^ n) (pow_pos n)
row_below Udiv n a b f g = divided_below n b (a / b) (omega (arith, div-le_self a b))
row_below Urem n a b f g = divided_below n b (a % b) (omega (arith, mod-le a b))
row_below Umod n a b f g = divided_below n b (a % b) (omega (arith, mod-le a b))
row_below Sdiv n a b f g = divided_below n b _ (wrapped_below n _)
row_below Srem n a b f g = divided_below n b _ (wrapped_below n _)
row_below Smod n a b f g = divided_below n b _ (wrapped_below n _)
row_below And n a b f g = omega (arith, and_le_l a b)
row_below Or n a b f g = or_lt n a b f g
row_below Xor n a b f g = xor_lt n a b f g
row_below Eq n a b f g = truth_below _
row_below Neq n a b f g = truth_below _
row_below Slt n a b f g = truth_below _
row_below Sgt n a b f g = truth_below _
row_below Sle n a b f g = truth_below _
row_below Sge n a b f g = truth_below _
row_below Ult n a b f g = truth_below _
row_below Ugt n a b f g = truth_below _
row_below Ule n a b f g = truth_below _
row_below Uge n a b f g = truth_below _
row_below _ n a b f g = pow_pos n

one_fits : (op : Op) (vs : List Datum) (n : ℕ) → AreData (row_of (int_type n ∷ [])) → FitsRow (data_row vs) (row_of (int_type n ∷ [])) → FitsType (integer_result op vs) (int_type (row_width op n))
one_fits op vs n d f =
    let o = one_arg vs (int_type n) f in
    let x = int_fit o.x n d.0 o.fits_x in
    rw (o.is, x.is) (refl, row_below op n x.bits 0 x.below (pow_pos n))

two_fit : (op : Op) (vs : List Datum) (n : ℕ) → AreData (row_of (int_type n ∷ int_type n ∷ [])) → FitsRow (data_row vs) (row_of (int_type n ∷ int_type n ∷ []))
    → FitsType (integer_result op vs) (int_type (row_width op n))
two_fit op vs n d f =
    let o = two_args vs (int_type n) (int_type n) f in
    let x = int_fit o.x n d.0 o.fits_x in
    let y = int_fit o.y n d.0 o.fits_y in
    rw (o.is, x.is, y.is) (refl, row_below op n x.bits y.bits x.below y.below)

-- ---- shifts

-- a part of j bits above one of k bits
two_parts : (x y j k n : ℕ) → x < 2 ^ j → y < 2 ^ k → j + k ≡ n → x * 2 ^ k + y < 2 ^ n
two_parts x y j k n f g e = let p : 2 ^ n ≡ 2 ^ k * 2 ^ j = ap (λ m. 2 ^ m) (sym e) ∙ pow-add 2 j k ∙ mul_swap (2 ^ j) (2 ^ k) in rw p (mul-add-lt x (2 ^ k) y (2 ^ j) f g)
  where
    mul_swap : (a b : ℕ) → a * b ≡ b * a
    mul_swap a b = omega arith

up_below : (n b h k : ℕ) → b < 2 ^ n → h < 2 ^ n → k ≤ n → moved_up n b h k < 2 ^ n
up_below n b h k f g l =
    let s : n - k + k ≡ n = omega arith in
    let t : k + (n - k) ≡ n = omega arith in
    let m : (b * 2 ^ k) % 2 ^ n ≡ (b % 2 ^ (n - k)) * 2 ^ k = subst (λ v. (b * 2 ^ k) % 2 ^ v ≡ (b % 2 ^ (n - k)) * 2 ^ k) s (scaled_mod b (n - k) k) in
    rw m (two_parts (b % 2 ^ (n - k)) (h / 2 ^ (n - k)) (n - k) k n (mod_below b (2 ^ (n - k)) (pow_pos (n - k))) (shr_below h k (n - k) (rw t g)) s)

down_below : (n b h k : ℕ) → b < 2 ^ n → h < 2 ^ n → k ≤ n → moved_down n b h k < 2 ^ n
down_below n b h k f g l =
    let s : n - k + k ≡ n = omega arith in
    let t : k + (n - k) ≡ n = omega arith in
    two_parts (h % 2 ^ k) (b / 2 ^ k) k (n - k) n (mod_below h (2 ^ k) (pow_pos k)) (shr_below b (n - k) k (rw s f)) t

shifts_fit : (move : ℕ → ℕ → ℕ → ℕ → ℕ) (vs : List Datum) (n w : ℕ) → ((b h k : ℕ) → b < 2 ^ n → h < 2 ^ n → k ≤ n → move n b h k < 2 ^ n)
    → AreData (row_of (int_type n ∷ int_type n ∷ int_type w ∷ [])) → FitsRow (data_row vs) (row_of (int_type n ∷ int_type n ∷ int_type w ∷ [])) → FitsType (shifted move vs) (int_type n)
shifts_fit move vs n w below d f =
    let o = three_args vs (int_type n) (int_type n) (int_type w) f in
    let x = int_fit o.x n d.0 o.fits_x in
    let y = int_fit o.y n d.0 o.fits_y in
    let z = int_fit o.z w d.1.1.0 o.fits_z in
    rw (o.is, x.is, y.is, z.is) (refl, below x.bits y.bits (min z.bits n) x.below y.below (min-le_right z.bits n))

-- ---- parts

parts_fit : (r : DatumRow) (t : TypeTree) → PartsFit r t → PartsFit (data_row (parts_of r)) t
parts_fit r t f = rw (data_row-parts_of r) f

fit_take : (n : ℕ) (ds : List Datum) (t : TypeTree) → PartsFit (data_row ds) t → PartsFit (data_row (take n ds)) t
fit_take zero ds t f = tt
fit_take (suc n) [] t f = tt
fit_take (suc n) (d ∷ ds) t f = (f.0, fit_take n ds t f.1)

fit_drop : (n : ℕ) (ds : List Datum) (t : TypeTree) → PartsFit (data_row ds) t → PartsFit (data_row (drop n ds)) t
fit_drop zero ds t f = f
fit_drop (suc n) [] t f = tt
fit_drop (suc n) (d ∷ ds) t f = fit_drop n ds t f.1

fit_append : (ds es : List Datum) (t : TypeTree) → PartsFit (data_row ds) t → PartsFit (data_row es) t → PartsFit (data_row (ds ++ es)) t
fit_append [] es t f g = g
fit_append (d ∷ ds) es t f g = (f.0, fit_append ds es t f.1 g)

fit_set : (ds : List Datum) (k : ℕ) (v : Datum) (t : TypeTree) → PartsFit (data_row ds) t → FitsType v t → PartsFit (data_row (set ds k v)) t
fit_set [] k v t f g = tt
fit_set (d ∷ ds) zero v t f g = (g, f.1)
fit_set (d ∷ ds) (suc k) v t f g = (f.0, fit_set ds k v t f.1 g)

fit_replicate : (n : ℕ) (v : Datum) (t : TypeTree) → FitsType v t → PartsFit (data_row (replicate n v)) t
fit_replicate zero v t f = tt
fit_replicate (suc n) v t f = (f, fit_replicate n v t f)

-- values of one type each fit it
all_of_one : (vs : List Datum) (n : ℕ) (t : TypeTree) → FitsRow (data_row vs) (row_of (replicate n t)) → (length vs ≡ n) × PartsFit (data_row vs) t
all_of_one [] zero t f = (refl, tt)
all_of_one [] (suc n) t f = absurd f
all_of_one (v ∷ vs) zero t f = absurd f
all_of_one (v ∷ vs) (suc n) t f = let i = all_of_one vs n t f.1 in (ap suc i.0, (f.0, i.1))

-- a struct with a field replaced by a value of its type
field_set : (r : DatumRow) (ts : TypeRow) (k : ℕ) (p : TypeTree) (v : Datum) → FitsRow r ts → PartHasType (tuple_type ts) (Field k) p → FitsType v p → FitsRow (data_row (set (parts_of r) k v)) ts
field_set no_values no_types k p v f h g = tt
field_set no_values (more_types t ts) k p v f h g = absurd f
field_set (more_values x r) no_types k p v f h g = absurd f
field_set (more_values x r) (more_types t ts) zero p v f h g = (as_type v p t g (sym cc), rw (data_row-parts_of r) f.1)
field_set (more_values x r) (more_types t ts) (suc k) p v f h g = (f.0, field_set r ts k p v f.1 (sym (beyond_of (bit_count t) (field_part ts k)) ∙ h) g)

extf_fits : (v : Datum) (t : TypeTree) (k : ℕ) (r : TypeTree) → FitsType v t → PartHasType t (Field k) r → FitsType (part_by v (Field k)) r
extf_fits (int_value n a) (int_type m) k r f h = cc
extf_fits (time_value d) time_type k r f h = cc
extf_fits (array_value vs) (array_type n t) k r f h = let e = element_part n t k r h in as_type _ t r (element_fits vs t k no_value f.1 (omega (arith, length-parts_of vs, f.0, e.0))) e.1
extf_fits (tuple_value vs) (tuple_type ts) k r f h = (field_fits vs ts k r no_value f h).1
extf_fits _ _ k r f h = absurd f

exts_fits : (v : Datum) (t : TypeTree) (o n : ℕ) (r : TypeTree) → FitsType v t → PartHasType t (Slice o n) r → FitsType (part_by v (Slice o n)) r
exts_fits (int_value w a) (int_type m) o n r f h = let e = bits_part m o n r h in as_type (int_value n (a / 2 ^ o % 2 ^ n)) (int_type n) r (refl, mod_below (a / 2 ^ o) (2 ^ n) (pow_pos n)) e.2
exts_fits (array_value vs) (array_type m t) o n r f h =
    let e = elements_part m t o n r h in
    let l : length (parts_of vs) ≡ m = length-parts_of vs ∙ f.0 in
    let c : n ≤ length (drop o (parts_of vs)) = omega (arith, length-drop o (parts_of vs), l, e.1) in
    let d = fit_take n (drop o (parts_of vs)) t (fit_drop o (parts_of vs) t (parts_fit vs t f.1)) in
    as_type (array_value (data_row (take n (drop o (parts_of vs))))) (array_type n t) r (part_count-data_row (take n (drop o (parts_of vs))) ∙ length-take-le n (drop o (parts_of vs)) c, d) e.2
exts_fits (time_value d) time_type o n r f h = cc
exts_fits (tuple_value vs) (tuple_type ts) o n r f h = cc
exts_fits _ _ o n r f h = absurd f

insf_fits : (v w : Datum) (t p : TypeTree) (k : ℕ) → FitsType v t → FitsType w p → PartHasType t (Field k) p → FitsType (with_part v (Field k) w) t
insf_fits (int_value n a) w (int_type m) p k f g h = cc
insf_fits (time_value d) w time_type p k f g h = cc
insf_fits (array_value vs) w (array_type n t) p k f g h =
    let e = element_part n t k p h in
    (part_count-data_row (set (parts_of vs) k w) ∙ length-set (parts_of vs) k w ∙ length-parts_of vs ∙ f.0, fit_set (parts_of vs) k w t (parts_fit vs t f.1) (as_type w p t g (sym e.1)))
insf_fits (tuple_value vs) w (tuple_type ts) p k f g h = field_set vs ts k p w f h g
insf_fits _ w _ p k f g h = absurd f

inss_fits : (v w : Datum) (t p : TypeTree) (o n : ℕ) → FitsType v t → FitsType w p → PartHasType t (Slice o n) p → FitsType (with_part v (Slice o n) w) t
inss_fits (int_value m a) w (int_type u) p o n f g h = let e = bits_part u o n p h in new_bits w (as_type w p (int_type n) g (sym e.2)) e.1
  where
    new_bits : (w : Datum) → FitsType w (int_type n) → o + n ≤ u → FitsType (with_part (int_value m a) (Slice o n) w) (int_type u)
    new_bits (int_value l c) g e = (f.0, replaced_below u a c o n f.1 g.1 e)
    new_bits (time_value d) g e = absurd g
    new_bits (array_value ws) g e = absurd g
    new_bits (tuple_value ws) g e = absurd g
inss_fits (array_value vs) w (array_type m t) p o n f g h = let e = elements_part m t o n p h in new_elements w (as_type w p (array_type n t) g (sym e.2)) e.1
  where
    new_elements : (w : Datum) → FitsType w (array_type n t) → o + n ≤ m → FitsType (with_part (array_value vs) (Slice o n) w) (array_type m t)
    new_elements (array_value ws) g e =
        let l : length (parts_of vs) ≡ m = length-parts_of vs ∙ f.0 in
        let k : length (parts_of ws) ≡ n = length-parts_of ws ∙ g.0 in
        let all = take o (parts_of vs) ++ parts_of ws ++ drop (o + n) (parts_of vs) in
        let c : length all ≡ m = simp (length-append, length-drop) (omega (arith, l, k, e, length-take-le o (parts_of vs) (omega arith))) in (
          part_count-data_row all ∙ c,
          fit_append (take o (parts_of vs) ++ parts_of ws) (drop (o + n) (parts_of vs)) t
              (fit_append (take o (parts_of vs)) (parts_of ws) t (fit_take o (parts_of vs) t (parts_fit vs t f.1)) (parts_fit ws t g.1)) (fit_drop (o + n) (parts_of vs) t (parts_fit vs t f.1)),
        )
    new_elements (int_value l c) g e = absurd g
    new_elements (time_value d) g e = absurd g
    new_elements (tuple_value ws) g e = absurd g
inss_fits (time_value d) w time_type p o n f g h = cc
inss_fits (tuple_value vs) w (tuple_type ts) p o n f g h = cc
inss_fits _ w _ p o n f g h = absurd f

last_within : (s l : ℕ) → 1 ≤ l → min s (l - 1) < l
last_within s l h = omega arith

mux_fits : (v s : Datum) (n w : ℕ) (t : TypeTree) → 1 ≤ n → FitsType v (array_type n t) → FitsType s (int_type w) → FitsType (selected (v ∷ s ∷ [])) t
mux_fits (array_value vs) (int_value w a) n m t h f g = element_fits vs t _ no_value f.1 (last_within a (length (parts_of vs)) (omega (arith, length-parts_of vs, f.0)))
mux_fits (array_value vs) (time_value d) n m t h f g = absurd g
mux_fits (array_value vs) (array_value ws) n m t h f g = absurd g
mux_fits (array_value vs) (tuple_value ws) n m t h f g = absurd g
mux_fits (int_value l c) s n m t h f g = absurd f
mux_fits (time_value d) s n m t h f g = absurd f
mux_fits (tuple_value ws) s n m t h f g = absurd f

-- ---- every row

module _ (vs : List Datum) (ts : List TypeTree) (r : TypeTree) (d : AreData (row_of ts)) (f : FitsRow (data_row vs) (row_of ts)) where
  data_as : (us : List TypeTree) → ts ≡ us → AreData (row_of us)
  data_as us e = let D : List TypeTree → Type 0 = λ ts. AreData (row_of ts) in subst D e d

  gives : (x : Datum) (t : TypeTree) → FitsType x t → r ≡ t → FitsType x r
  gives x t g e = as_type x t r g (sym e)

  of_unary : (op : Op) → (n : ℕ) → row_width op n ≡ n → ts ≡ int_type n ∷ [] → r ≡ int_type n → FitsType (integer_result op vs) r
  of_unary op n w e q = gives _ (int_type n) (as_type _ _ _ (one_fits op vs n (data_as _ e) (fits_as vs ts _ f e)) (ap int_type w)) q

  of_binary : (op : Op) → (n m : ℕ) → row_width op n ≡ m → ts ≡ int_type n ∷ int_type n ∷ [] → r ≡ int_type m → FitsType (integer_result op vs) r
  of_binary op n m w e q = gives _ (int_type m) (as_type _ _ _ (two_fit op vs n (data_as _ e) (fits_as vs ts _ f e)) (ap int_type w)) q

  of_truth : (t : Bool) → r ≡ int_type 1 → FitsType (bit_value t) r
  of_truth t q = gives (bit_value t) (int_type 1) (refl, truth_below t) q

  of_mux : (n w : ℕ) → ts ≡ array_type n r ∷ int_type w ∷ [] → FitsType (selected vs) r
  of_mux n w e =
      let o = two_args vs (array_type n r) (int_type w) (fits_as vs ts _ f e) in
      let many = (data_as _ e).0.1 in
      rw o.is (mux_fits o.x o.y n w r many o.fits_x o.fits_y)

  of_extf : (k : ℕ) (t : TypeTree) → ts ≡ t ∷ [] → PartHasType t (Field k) r → FitsType (field_at k vs) r
  of_extf k t e h = let o = one_arg vs t (fits_as vs ts _ f e) in rw o.is (extf_fits o.x t k r o.fits_x h)

  of_exts : (i n : ℕ) (t : TypeTree) → ts ≡ t ∷ [] → PartHasType t (Slice i n) r → FitsType (slice_at i n vs) r
  of_exts i n t e h = let o = one_arg vs t (fits_as vs ts _ f e) in rw o.is (exts_fits o.x t i n r o.fits_x h)

  of_insf : (k : ℕ) (p : TypeTree) → ts ≡ r ∷ p ∷ [] → PartHasType r (Field k) p → FitsType (with_field k vs) r
  of_insf k p e h = let o = two_args vs r p (fits_as vs ts _ f e) in rw o.is (insf_fits o.x o.y r p k o.fits_x o.fits_y h)

  of_inss : (i n : ℕ) (p : TypeTree) → ts ≡ r ∷ p ∷ [] → PartHasType r (Slice i n) p → FitsType (with_slice i n vs) r
  of_inss i n p e h = let o = two_args vs r p (fits_as vs ts _ f e) in rw o.is (inss_fits o.x o.y r p i n o.fits_x o.fits_y h)

  of_array : (n : ℕ) (t : TypeTree) → ts ≡ replicate n t → r ≡ array_type n t → FitsType (array_value (data_row vs)) r
  of_array n t e q = let o = all_of_one vs n t (fits_as vs ts _ f e) in gives (array_value (data_row vs)) (array_type n t) (part_count-data_row vs ∙ o.0, o.1) q

  of_repeat : (n : ℕ) (t : TypeTree) → ts ≡ t ∷ [] → r ≡ array_type n t → FitsType (repeated n vs) r
  of_repeat n t e q =
      let o = one_arg vs t (fits_as vs ts _ f e) in
      let c = part_count-data_row (replicate n o.x) ∙ length-replicate n o.x in
      rw o.is (gives (array_value (data_row (replicate n o.x))) (array_type n t) (c, fit_replicate n o.x t o.fits_x) q)

  -- a class of operations on integers whose results have this many bits
  of_class : (op : Op) (c : OpClass) → class_of op ≡ c → (n : ℕ) → row_width op n ≡ class_width c n
  unfolding row_width
  of_class op c e n = ap (λ (k : OpClass). class_width k n) e

  of_equality : (op : Op) → r ≡ int_type 1 → FitsType (equality_result op vs) r
  of_equality Neq q = of_truth _ q
  of_equality _ q = of_truth _ q

  of_shift : (op : Op) (n w : ℕ) → ts ≡ int_type n ∷ int_type n ∷ int_type w ∷ [] → r ≡ int_type n → FitsType (shift_result op vs) r
  of_shift Shr n w e q = gives _ (int_type n) (shifts_fit moved_down vs n w (down_below n) (data_as _ e) (fits_as vs ts _ f e)) q
  of_shift _ n w e q = gives _ (int_type n) (shifts_fit moved_up vs n w (up_below n) (data_as _ e) (fits_as vs ts _ f e)) q

  of_taken : (s : Step) (t : TypeTree) → ts ≡ t ∷ [] → PartHasType t s r → FitsType (part_taken s vs) r
  of_taken (Field k) t e h = of_extf k t e h
  of_taken (Slice i n) t e h = of_exts i n t e h

  of_put : (s : Step) (p : TypeTree) → ts ≡ r ∷ p ∷ [] → PartHasType r s p → FitsType (part_put s vs) r
  of_put (Field k) p e h = of_insf k p e h
  of_put (Slice i n) p e h = of_inss i n p e h

  of_any : (op : Op) (c : OpClass) → class_of op ≡ c → ClassType c ts r → FitsType (class_value c op vs) r
  of_any op class.Unary e k = of_unary op k.0 (of_class op class.Unary e k.0) k.1 k.2
  of_any op class.Binary e k = of_binary op k.0 k.0 (of_class op class.Binary e k.0) k.1 k.2
  of_any op class.Relation e k = of_binary op k.0 1 (of_class op class.Relation e k.0) k.1 k.2
  of_any op class.Equality e k = of_equality op k.2
  of_any op class.Shift e k = of_shift op k.0 k.1 k.2 k.3
  of_any op class.Select e k = of_mux k.0 k.1 k.2
  of_any op (class.TakePart s) e k = of_taken s k.0 k.1 k.2
  of_any op (class.PutPart s) e k = of_put s k.0 k.1 k.2
  of_any op class.Array e k = of_array (length ts) k.0 k.2 k.3
  of_any op (class.Repeat n) e k = of_repeat n k.0 k.1 k.3
  of_any op class.Tuple e k = gives (tuple_value (data_row vs)) (tuple_type (row_of ts)) f k.1

pub results_fit_lem : ResultsFit
unfolding apply
results_fit_lem op vs ts r d f k = of_any vs ts r d f op (class_of op) refl k

-- a class gives one type for its operands' types
one_class_type : (c : OpClass) (ts : List TypeTree) (r s : TypeTree) → ClassType c ts r → ClassType c ts s → r ≡ s
one_class_type class.Array [] r s h k = absurd (omega (arith, h.1))
one_class_type class.Array (t ∷ ts) r s h k = cc
one_class_type _ ts r s h k = cc

pub one_result_type_lem : OneResultType
one_result_type_lem op ts r s h k = one_class_type (class_of op) ts r s h k
