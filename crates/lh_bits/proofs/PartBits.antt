-- The bits of a part of a value, and those of a value with a part replaced.
use Rattle.std.proofs.Common.{◌≡◌, ℕ, ◌+◌, ◌-◌, ◌*◌, ◌/◌, ◌%◌, ◌^◌, ◌<◌, ◌≤◌, zero, suc, Bool, List, [], ◌∷◌, ◌++◌, length, get_or, set, take, drop, Some, refl, ap, sym, ◌∙◌, subst, add-one, append_assoc, arith}
use Rattle.std.specs.List.{flat_map}
use Rattle.std.proofs.Math.Nat.{suc-mul, mod-eq_of_lt}
use Rattle.std.proofs.lemmas.List.{length-append, length-drop, take_at, drop_at, set_split, take-append-drop, drop-drop, drop_more, length-take-le}
use Rattle.std.proofs.lemmas.List.Concat.{flat_map-append}
use Rattle.std.proofs.lemmas.Nat.{shr-shr, shr_below, pow-add, pow_pos, shr_high, mod_low, mod_below, mul-add-lt}
use Rattle.std.proofs.lemmas.Option.{same_Some, none-some}
use Rattle.std.proofs.lemmas.Bool.Decides.{nat_tests}
use Rattle.lh_types.specs.Types.{TypeTree, TypeRow, int_type, time_type, array_type, tuple_type, no_types, more_types, bit_count}
use Rattle.lh_types.specs.Values.{Datum, DatumRow, int_value, time_value, array_value, tuple_value, no_values, more_values, data_row}
use Rattle.lh_types.specs.Fits.{FitsType, PartsFit, FitsRow, part_count}
use Rattle.lh_types.specs.Bits.{value_bits, row_bits, number_bits}
use Rattle.lh_types.specs.Parts.{Part, field_part, step_part, bits_within, bits_with, parts_of, part_by, with_part}
use Rattle.lh_types.specs.declared.part.Step.{Step}
use Rattle.lh_types.specs.declared.part.Step.TheVariants.{Field, Slice}
use Rattle.lh_bits.proofs.NumberBits.{length-number_bits, number_bits-add, number_bits-mod}
use Rattle.lh_types.proofs.PartLemmas.{slice_facts, part_if-holds, part_beyond-holds}
use Rattle.lh_types.proofs.DatumRows.{data_row-parts_of, part_count-data_row, length-parts_of}
use Rattle.lh_bits.proofs.ValueBits.{length-value_bits, length-row_bits}

-- the middle of three pieces, and three pieces with the middle one replaced
bits_within-mid : (A B C : List Bool) (lo len : ℕ) → length A ≡ lo → length B ≡ len → bits_within lo len (A ++ (B ++ C)) ≡ B
bits_within-mid A B C lo len a b = ap (take len) (drop_at A (B ++ C) lo a) ∙ take_at B C len b

pub bits_with-mid : (A B C new : List Bool) (lo : ℕ) → length A ≡ lo → length new ≡ length B → bits_with lo new (A ++ (B ++ C)) ≡ A ++ (new ++ C)
bits_with-mid A B C new lo a b =
    let front : take lo (A ++ (B ++ C)) ≡ A = take_at A (B ++ C) lo a in
    let joined : A ++ (B ++ C) ≡ (A ++ B) ++ C = sym (append_assoc A B C) in
    let back : drop (lo + length new) (A ++ (B ++ C)) ≡ C = ap (drop (lo + length new)) joined ∙ drop_at (A ++ B) C (lo + length new) (omega (arith, length-append A B, a, b)) in
    rw (front, back) (append_assoc A new C)

-- the bits of a row are those of its parts in order
row_bits-parts_of : (vs : DatumRow) → row_bits vs ≡ flat_map value_bits (parts_of vs)
row_bits-parts_of no_values = refl
row_bits-parts_of (more_values v vs) = ap (λ bs. value_bits v ++ bs) (row_bits-parts_of vs)

row_bits-data_row : (vs : List Datum) → row_bits (data_row vs) ≡ flat_map value_bits vs
row_bits-data_row [] = refl
row_bits-data_row (v ∷ vs) = ap (λ bs. value_bits v ++ bs) (row_bits-data_row vs)

-- a list as what stands before a place, there, and after it
split_at : (xs : List Datum) (k : ℕ) (d : Datum) → k < length xs → xs ≡ take k xs ++ (get_or xs k d ∷ drop (k + 1) xs)
split_at xs k d h = sym (take-append-drop k xs) ∙ ap (λ ys. take k xs ++ ys) (drop_more xs k d h)

-- element or field k starts at the part's lowest bit, and is of its type
record StandsAt (vs : List Datum) (k : ℕ) (p : Part) : Type 0 where
  there : k < length vs
  starts : length (flat_map value_bits (take k vs)) ≡ p.lo
  fits : FitsType (get_or vs k (int_value 0 0)) p.of

module _ (vs : List Datum) (k : ℕ) (p : Part) (s : StandsAt vs k p) where
  bits_of-split : flat_map value_bits vs ≡ flat_map value_bits (take k vs) ++ (value_bits (get_or vs k (int_value 0 0)) ++ flat_map value_bits (drop (k + 1) vs))
  bits_of-split = ap (flat_map value_bits) (split_at vs k (int_value 0 0) s.there) ∙ flat_map-append value_bits (take k vs) (get_or vs k (int_value 0 0) ∷ drop (k + 1) vs)

  bits_of-part : value_bits (get_or vs k (int_value 0 0)) ≡ bits_within p.lo (bit_count p.of) (flat_map value_bits vs)
  bits_of-part = sym (ap (bits_within p.lo (bit_count p.of)) bits_of-split ∙ bits_within-mid _ _ _ p.lo (bit_count p.of) s.starts (length-value_bits _ p.of s.fits))

  bits_with-part : (w : Datum) → FitsType w p.of → flat_map value_bits (set vs k w) ≡ bits_with p.lo (value_bits w) (flat_map value_bits vs)
  bits_with-part w f =
      let same : length (value_bits w) ≡ length (value_bits (get_or vs k (int_value 0 0))) = length-value_bits w p.of f ∙ sym (length-value_bits _ p.of s.fits) in
      let split : set vs k w ≡ take k vs ++ (w ∷ drop (k + 1) vs) = set_split vs k w s.there ∙ ap (λ n. take k vs ++ (w ∷ drop n vs)) (sym (add-one k)) in
      ap (flat_map value_bits) split ∙ flat_map-append value_bits (take k vs) (w ∷ drop (k + 1) vs)
      ∙ sym (ap (bits_with p.lo (value_bits w)) bits_of-split ∙ bits_with-mid _ _ _ (value_bits w) p.lo s.starts same)

StandsAt-element : (vs : DatumRow) (t : TypeTree) (k : ℕ) → PartsFit vs t → k < part_count vs → StandsAt (parts_of vs) k (record { lo = k * bit_count t; of = t })
StandsAt-element no_values t k h l = absurd (omega arith)
StandsAt-element (more_values v vs) t zero h l = record { there = omega arith; starts = omega arith; fits = h.0 }
StandsAt-element (more_values v vs) t (suc k) h l =
    let s = StandsAt-element vs t k h.1 (omega arith) in
    record {
      there = omega (arith, s.there);
      starts = omega (arith, length-append (value_bits v) (flat_map value_bits (take k (parts_of vs))), length-value_bits v t h.0, s.starts, suc-mul k (bit_count t));
      fits = s.fits;
    }

StandsAt-field : (vs : DatumRow) (ts : TypeRow) (k : ℕ) (p : Part) → FitsRow vs ts → field_part ts k ≡ Some p → StandsAt (parts_of vs) k p
StandsAt-field no_values no_types k p h e = absurd (none-some _ e)
StandsAt-field (more_values v vs) (more_types t ts) zero p h e = subst (StandsAt (v ∷ parts_of vs) 0) (same_Some _ _ e) (record { there = omega arith; starts = refl; fits = h.0 })
StandsAt-field (more_values v vs) (more_types t ts) (suc k) p h e =
    part_beyond-holds (StandsAt (v ∷ parts_of vs) (suc k)) (bit_count t) (field_part ts k) p e (λ q g.
    let s = StandsAt-field vs ts k q h.1 g in
    record {
      there = omega (arith, s.there);
      starts = omega (arith, length-append (value_bits v) (flat_map value_bits (take k (parts_of vs))), length-value_bits v t h.0, s.starts);
      fits = s.fits;
    })
StandsAt-field _ _ k p h e = absurd h

-- a row with one part replaced by another of the type
PartsFit-set : (vs : DatumRow) (t : TypeTree) (k : ℕ) (w : Datum) → PartsFit vs t → FitsType w t → (part_count (data_row (set (parts_of vs) k w)) ≡ part_count vs)
    × PartsFit (data_row (set (parts_of vs) k w)) t
PartsFit-set no_values t k w h f = (refl, tt)
PartsFit-set (more_values v vs) t zero w h f = (ap (λ r. part_count r + 1) (data_row-parts_of vs), (f, subst (λ r. PartsFit r t) (sym (data_row-parts_of vs)) h.1))
PartsFit-set (more_values v vs) t (suc k) w h f = let r = PartsFit-set vs t k w h.1 f in (omega (arith, r.0), (h.0, r.1))

FitsRow-set : (vs : DatumRow) (ts : TypeRow) (k : ℕ) (p : Part) (w : Datum) → FitsRow vs ts → field_part ts k ≡ Some p → FitsType w p.of → FitsRow (data_row (set (parts_of vs) k w)) ts
FitsRow-set no_values no_types k p w h e f = tt
FitsRow-set (more_values v vs) (more_types t ts) zero p w h e f =
    let same : t ≡ p.of = ap (λ q. q.of) (same_Some _ _ e) in
    (subst (FitsType w) (sym same) f, subst (λ r. FitsRow r ts) (sym (data_row-parts_of vs)) h.1)
FitsRow-set (more_values v vs) (more_types t ts) (suc k) p w h e f =
    (h.0, part_beyond-holds (λ q. FitsType w q.of → FitsRow (data_row (set (parts_of vs) k w)) ts) (bit_count t) (field_part ts k) p e (λ q g i. FitsRow-set vs ts k q w h.1 g i) f)
FitsRow-set _ _ k p w h e f = absurd h

-- what all values of a list are, those of its parts are
AllFit-take : (t : TypeTree) (n : ℕ) (xs : List Datum) → PartsFit (data_row xs) t → PartsFit (data_row (take n xs)) t
AllFit-take t zero xs h = tt
AllFit-take t (suc n) [] h = tt
AllFit-take t (suc n) (x ∷ xs) h = (h.0, AllFit-take t n xs h.1)

AllFit-drop : (t : TypeTree) (n : ℕ) (xs : List Datum) → PartsFit (data_row xs) t → PartsFit (data_row (drop n xs)) t
AllFit-drop t zero xs h = h
AllFit-drop t (suc n) [] h = tt
AllFit-drop t (suc n) (x ∷ xs) h = AllFit-drop t n xs h.1

AllFit-append : (t : TypeTree) (xs ys : List Datum) → PartsFit (data_row xs) t → PartsFit (data_row ys) t → PartsFit (data_row (xs ++ ys)) t
AllFit-append t [] ys h k = k
AllFit-append t (x ∷ xs) ys h k = (h.0, AllFit-append t xs ys h.1 k)

length-flat_map-fit : (t : TypeTree) (xs : List Datum) → PartsFit (data_row xs) t → length (flat_map value_bits xs) ≡ length xs * bit_count t
length-flat_map-fit t xs h = ap length (sym (row_bits-data_row xs)) ∙ length-row_bits (data_row xs) t h ∙ ap (λ n. n * bit_count t) (part_count-data_row xs)

-- a slice of len elements from at on, which lies within the elements
module _ (xs : List Datum) (t : TypeTree) (at len : ℕ) (h : PartsFit (data_row xs) t) (inside : at + len ≤ length xs) where
  front_len : length (flat_map value_bits (take at xs)) ≡ at * bit_count t
  front_len = length-flat_map-fit t (take at xs) (AllFit-take t at xs h) ∙ ap (λ n. n * bit_count t) (length-take-le at xs (omega arith))

  slice_fits : PartsFit (data_row (take len (drop at xs))) t
  slice_fits = AllFit-take t len (drop at xs) (AllFit-drop t at xs h)

  length-slice : length (take len (drop at xs)) ≡ len
  length-slice = length-take-le len (drop at xs) (omega (arith, length-drop at xs))

  slice_len : length (flat_map value_bits (take len (drop at xs))) ≡ len * bit_count t
  slice_len = length-flat_map-fit t (take len (drop at xs)) slice_fits ∙ ap (λ n. n * bit_count t) length-slice

  slice_split : flat_map value_bits xs ≡ flat_map value_bits (take at xs) ++ (flat_map value_bits (take len (drop at xs)) ++ flat_map value_bits (drop (at + len) xs))
  slice_split =
      let rest : drop at xs ≡ take len (drop at xs) ++ drop (at + len) xs = sym (take-append-drop len (drop at xs)) ∙ ap (λ ys. take len (drop at xs) ++ ys) (drop-drop len at xs) in
      ap (flat_map value_bits) (sym (take-append-drop at xs)) ∙ flat_map-append value_bits (take at xs) (drop at xs)
      ∙ ap (λ ys. flat_map value_bits (take at xs) ++ ys) (ap (flat_map value_bits) rest ∙ flat_map-append value_bits (take len (drop at xs)) (drop (at + len) xs))

  bits_of-slice : flat_map value_bits (take len (drop at xs)) ≡ bits_within (at * bit_count t) (len * bit_count t) (flat_map value_bits xs)
  bits_of-slice = sym (ap (bits_within (at * bit_count t) (len * bit_count t)) slice_split ∙ bits_within-mid _ _ _ (at * bit_count t) (len * bit_count t) front_len slice_len)

  bits_with-slice : (ws : List Datum) → PartsFit (data_row ws) t → length ws ≡ len
      → flat_map value_bits (take at xs ++ ws ++ drop (at + len) xs) ≡ bits_with (at * bit_count t) (flat_map value_bits ws) (flat_map value_bits xs)
  bits_with-slice ws f l =
      let same : length (flat_map value_bits ws) ≡ length (flat_map value_bits (take len (drop at xs))) = length-flat_map-fit t ws f ∙ ap (λ n. n * bit_count t) l ∙ sym slice_len in
      let split : flat_map value_bits (take at xs ++ ws ++ drop (at + len) xs) ≡ flat_map value_bits (take at xs) ++ (flat_map value_bits ws ++ flat_map value_bits (drop (at + len) xs)) =
      flat_map-append value_bits (take at xs ++ ws) (drop (at + len) xs) ∙ ap (λ ys. ys ++ flat_map value_bits (drop (at + len) xs)) (flat_map-append value_bits (take at xs) ws)
      ∙ append_assoc (flat_map value_bits (take at xs)) (flat_map value_bits ws) (flat_map value_bits (drop (at + len) xs)) in
      split ∙ sym (ap (bits_with (at * bit_count t) (flat_map value_bits ws)) slice_split ∙ bits_with-mid _ _ _ (flat_map value_bits ws) (at * bit_count t) front_len same)

  fits_with-slice : (ws : List Datum) → PartsFit (data_row ws) t → length ws ≡ len → (length (take at xs ++ ws ++ drop (at + len) xs) ≡ length xs)
      × PartsFit (data_row (take at xs ++ ws ++ drop (at + len) xs)) t
  fits_with-slice ws f l = (
    omega (arith, length-append (take at xs ++ ws) (drop (at + len) xs), length-append (take at xs) ws, length-take-le at xs (omega arith), length-drop (at + len) xs, l),
    AllFit-append t (take at xs ++ ws) (drop (at + len) xs) (AllFit-append t (take at xs) ws (AllFit-take t at xs h) f) (AllFit-drop t (at + len) xs h),
  )

-- some bits of an integer
module _ (w b at len : ℕ) (inside : at + len ≤ w) where
  number_split : number_bits w b ≡ number_bits at b ++ (number_bits len (b / 2 ^ at) ++ number_bits (w - (at + len)) (b / 2 ^ at / 2 ^ len))
  number_split =
      let e : w ≡ at + (len + (w - (at + len))) = omega arith in
      ap (λ k. number_bits k b) e ∙ number_bits-add at (len + (w - (at + len))) b ∙ ap (λ bs. number_bits at b ++ bs) (number_bits-add len (w - (at + len)) (b / 2 ^ at))

  bits_of-number_slice : number_bits len (b / 2 ^ at % 2 ^ len) ≡ bits_within at len (number_bits w b)
  bits_of-number_slice =
      let low : b / 2 ^ at % 2 ^ len % 2 ^ len ≡ b / 2 ^ at % 2 ^ len = mod-eq_of_lt (mod_below (b / 2 ^ at) (2 ^ len) (pow_pos len)) in
      number_bits-mod len (b / 2 ^ at % 2 ^ len) (b / 2 ^ at) low
      ∙ sym (ap (bits_within at len) number_split ∙ bits_within-mid _ _ _ at len (length-number_bits at b) (length-number_bits len (b / 2 ^ at)))

  -- the integer with these bits replaced by those of c
  module _ (c x : ℕ) (fits : c < 2 ^ len) (is : x ≡ b / 2 ^ (at + len) * 2 ^ (at + len) + c * 2 ^ at + b % 2 ^ at) where
    replaced : x ≡ (b / 2 ^ at / 2 ^ len * 2 ^ len + c) * 2 ^ at + b % 2 ^ at
    replaced =
        let high : b / 2 ^ at / 2 ^ len ≡ b / 2 ^ (at + len) = shr-shr b at len in
        let power : 2 ^ (at + len) ≡ 2 ^ at * 2 ^ len = pow-add 2 at len in
        let regroup : (b / 2 ^ (at + len) * 2 ^ len + c) * 2 ^ at ≡ b / 2 ^ (at + len) * (2 ^ at * 2 ^ len) + c * 2 ^ at = omega arith in
        is ∙ ap (λ k. b / 2 ^ (at + len) * k + c * 2 ^ at + b % 2 ^ at) power ∙ ap (λ k. k + b % 2 ^ at) (sym regroup) ∙ ap (λ k. (k * 2 ^ len + c) * 2 ^ at + b % 2 ^ at) (sym high)

    bits_with-number_slice : number_bits w x ≡ bits_with at (number_bits len c) (number_bits w b)
    bits_with-number_slice =
        let small : b % 2 ^ at < 2 ^ at = mod_below b (2 ^ at) (pow_pos at) in
        let low : x % 2 ^ at ≡ b % 2 ^ at = ap (λ k. k % 2 ^ at) replaced ∙ mod_low _ at (b % 2 ^ at) small in
        let up : x / 2 ^ at ≡ b / 2 ^ at / 2 ^ len * 2 ^ len + c = ap (λ k. k / 2 ^ at) replaced ∙ shr_high _ at (b % 2 ^ at) small in
        let mid : x / 2 ^ at % 2 ^ len ≡ c % 2 ^ len = ap (λ k. k % 2 ^ len) up ∙ mod_low _ len c fits ∙ sym (mod-eq_of_lt fits) in
        let high : x / 2 ^ at / 2 ^ len ≡ b / 2 ^ at / 2 ^ len = ap (λ k. k / 2 ^ len) up ∙ shr_high _ len c fits in
        let e : w ≡ at + (len + (w - (at + len))) = omega arith in
        let split : number_bits w x ≡ number_bits at x ++ (number_bits len (x / 2 ^ at) ++ number_bits (w - (at + len)) (x / 2 ^ at / 2 ^ len)) =
        ap (λ k. number_bits k x) e ∙ number_bits-add at (len + (w - (at + len))) x ∙ ap (λ bs. number_bits at x ++ bs) (number_bits-add len (w - (at + len)) (x / 2 ^ at)) in
        let lows : number_bits at x ≡ number_bits at b = number_bits-mod at x b low in
        let mids : number_bits len (x / 2 ^ at) ≡ number_bits len c = number_bits-mod len (x / 2 ^ at) c mid in
        let same : length (number_bits len c) ≡ length (number_bits len (b / 2 ^ at)) = length-number_bits len c ∙ sym (length-number_bits len (b / 2 ^ at)) in
        split ∙ ap (λ bs. bs ++ (number_bits len (x / 2 ^ at) ++ number_bits (w - (at + len)) (x / 2 ^ at / 2 ^ len))) lows
        ∙ ap (λ bs. number_bits at b ++ (bs ++ number_bits (w - (at + len)) (x / 2 ^ at / 2 ^ len))) mids ∙ ap (λ k. number_bits at b ++ (number_bits len c ++ number_bits (w - (at + len)) k)) high
        ∙ sym (ap (bits_with at (number_bits len c)) number_split ∙ bits_with-mid _ _ _ (number_bits len c) at (length-number_bits at b) same)

    below-number_slice : b < 2 ^ w → x < 2 ^ w
    below-number_slice h =
        let e : w ≡ (w - (at + len)) + (at + len) = omega arith in
        let power : 2 ^ w ≡ 2 ^ (w - (at + len)) * 2 ^ (at + len) = ap (λ k. 2 ^ k) e ∙ pow-add 2 (w - (at + len)) (at + len) in
        let high : b / 2 ^ (at + len) < 2 ^ (w - (at + len)) = shr_below b (w - (at + len)) (at + len) (subst (λ k. b < 2 ^ k) e h) in
        let small : b % 2 ^ at < 2 ^ at = mod_below b (2 ^ at) (pow_pos at) in
        let low : c * 2 ^ at + b % 2 ^ at < 2 ^ at * 2 ^ len = mul-add-lt c (2 ^ at) (b % 2 ^ at) (2 ^ len) fits small in
        let lower : c * 2 ^ at + b % 2 ^ at < 2 ^ (at + len) = subst (λ k. c * 2 ^ at + b % 2 ^ at < k) (sym (pow-add 2 at len)) low in
        let whole : b / 2 ^ (at + len) * 2 ^ (at + len) + (c * 2 ^ at + b % 2 ^ at) < 2 ^ (at + len) * 2 ^ (w - (at + len)) =
        mul-add-lt (b / 2 ^ (at + len)) (2 ^ (at + len)) (c * 2 ^ at + b % 2 ^ at) (2 ^ (w - (at + len))) high lower in
        omega (arith, is, power, whole)

-- a part of a value is of the part's type, and has the bits of the value from the part's lowest on
pub record IsPart (v w : Datum) (p : Part) : Type 0 where
  pub fits : FitsType w p.of
  pub bits : value_bits w ≡ bits_within p.lo (bit_count p.of) (value_bits v)

IsPart-placed : (v : Datum) (vs : DatumRow) (k : ℕ) (p : Part) → value_bits v ≡ row_bits vs → StandsAt (parts_of vs) k p → IsPart v (get_or (parts_of vs) k (int_value 0 0)) p
IsPart-placed v vs k p e s = record {
  fits = s.fits;
  bits = bits_of-part (parts_of vs) k p s ∙ ap (bits_within p.lo (bit_count p.of)) (sym (e ∙ row_bits-parts_of vs));
}

fits_row : (vs : DatumRow) (t : TypeTree) → PartsFit vs t → PartsFit (data_row (parts_of vs)) t
fits_row vs t h = subst (λ r. PartsFit r t) (sym (data_row-parts_of vs)) h

pub part_by-IsPart : (v : Datum) (t : TypeTree) (s : Step) (p : Part) → FitsType v t → step_part t s ≡ Some p → IsPart v (part_by v s) p
part_by-IsPart (array_value vs) (array_type n t) (Field k) p h e =
    part_if-holds (IsPart (array_value vs) (part_by (array_value vs) (Field k))) _ _ t p e (λ b.
    let lt : k < part_count vs = let l : k < n = grind (arith, nat_tests) in omega (arith, h.0, l) in
    IsPart-placed (array_value vs) vs k (record { lo = k * bit_count t; of = t }) refl (StandsAt-element vs t k h.1 lt))
part_by-IsPart (tuple_value vs) (tuple_type ts) (Field k) p h e = IsPart-placed (tuple_value vs) vs k p refl (StandsAt-field vs ts k p h e)
part_by-IsPart (int_value w b) (int_type n) (Slice at len) p h e =
    part_if-holds (IsPart (int_value w b) (part_by (int_value w b) (Slice at len))) _ _ (int_type len) p e (λ g.
    let f = slice_facts len at n g in
    record { fits = (refl, mod_below (b / 2 ^ at) (2 ^ len) (pow_pos len)); bits = bits_of-number_slice w b at len (omega (arith, f.1, h.0)) })
part_by-IsPart (array_value vs) (array_type n t) (Slice at len) p h e =
    part_if-holds (IsPart (array_value vs) (part_by (array_value vs) (Slice at len))) _ _ (array_type len t) p e (λ g.
    let f = slice_facts len at n g in
    let inside : at + len ≤ length (parts_of vs) = omega (arith, f.1, h.0, length-parts_of vs) in
    let all = fits_row vs t h.1 in
    record {
      fits = (part_count-data_row (take len (drop at (parts_of vs))) ∙ length-slice (parts_of vs) t at len all inside, slice_fits (parts_of vs) t at len all inside);
      bits = row_bits-data_row (take len (drop at (parts_of vs))) ∙ bits_of-slice (parts_of vs) t at len all inside
          ∙ ap (bits_within (at * bit_count t) (len * bit_count t)) (sym (row_bits-parts_of vs));
    })
part_by-IsPart (int_value w b) (int_type n) (Field k) p h e = absurd (none-some _ e)
part_by-IsPart (tuple_value vs) (tuple_type ts) (Slice at len) p h e = absurd (none-some _ e)
part_by-IsPart (time_value d) time_type s p h e = absurd (none-some _ e)
part_by-IsPart _ _ s p h e = absurd h

-- a value with a part replaced is of the type, and has the bits of the value with those of the part replaced
pub record IsWith (v : Datum) (t : TypeTree) (w : Datum) (x : Datum) (p : Part) : Type 0 where
  pub fits : FitsType x t
  pub bits : value_bits x ≡ bits_with p.lo (value_bits w) (value_bits v)

with_placed : (vs : DatumRow) (k : ℕ) (p : Part) (w : Datum) → StandsAt (parts_of vs) k p → FitsType w p.of → row_bits (data_row (set (parts_of vs) k w)) ≡ bits_with p.lo (value_bits w) (row_bits vs)
with_placed vs k p w s f = row_bits-data_row (set (parts_of vs) k w) ∙ bits_with-part (parts_of vs) k p s w f ∙ ap (bits_with p.lo (value_bits w)) (sym (row_bits-parts_of vs))

pub with_part-IsWith : (v : Datum) (t : TypeTree) (s : Step) (p : Part) (w : Datum) → FitsType v t → step_part t s ≡ Some p → FitsType w p.of → IsWith v t w (with_part v s w) p
with_part-IsWith (array_value vs) (array_type n t) (Field k) p w h e f =
    part_if-holds (λ q. FitsType w q.of → IsWith (array_value vs) (array_type n t) w (with_part (array_value vs) (Field k) w) q) _ _ t p e (λ b i.
    let lt : k < part_count vs = let l : k < n = grind (arith, nat_tests) in omega (arith, h.0, l) in
    let r = PartsFit-set vs t k w h.1 i in
    record { fits = (r.0 ∙ h.0, r.1); bits = with_placed vs k (record { lo = k * bit_count t; of = t }) w (StandsAt-element vs t k h.1 lt) i }) f
with_part-IsWith (tuple_value vs) (tuple_type ts) (Field k) p w h e f = record { fits = FitsRow-set vs ts k p w h e f; bits = with_placed vs k p w (StandsAt-field vs ts k p h e) f }
with_part-IsWith (int_value m b) (int_type n) (Slice at len) p (int_value l c) h e f =
    part_if-holds (λ q. FitsType (int_value l c) q.of → IsWith (int_value m b) (int_type n) (int_value l c) (with_part (int_value m b) (Slice at len) (int_value l c)) q) _ _ (int_type len) p e (λ g i.
    let k = slice_facts len at n g in
    let inside : at + len ≤ m = omega (arith, k.1, h.0) in
    let below : b < 2 ^ m = subst (λ j. b < 2 ^ j) (sym h.0) h.1 in
    let x = b / 2 ^ (at + len) * 2 ^ (at + len) + c * 2 ^ at + b % 2 ^ at in
    record {
      fits = (h.0, subst (λ j. x < 2 ^ j) h.0 (below-number_slice m b at len inside c x i.1 refl below));
      bits = bits_with-number_slice m b at len inside c x i.1 refl ∙ ap (λ j. bits_with at (number_bits j c) (number_bits m b)) (sym i.0);
    }) f
with_part-IsWith (array_value vs) (array_type n t) (Slice at len) p (array_value ws) h e f =
    part_if-holds (λ q. FitsType (array_value ws) q.of → IsWith (array_value vs) (array_type n t) (array_value ws) (with_part (array_value vs) (Slice at len) (array_value ws)) q) _ _
    (array_type len t) p e (λ g i.
    let k = slice_facts len at n g in
    let inside : at + len ≤ length (parts_of vs) = omega (arith, k.1, h.0, length-parts_of vs) in
    let all = fits_row vs t h.1 in
    let new = fits_row ws t i.1 in
    let same : length (parts_of ws) ≡ len = length-parts_of ws ∙ i.0 in
    let r = fits_with-slice (parts_of vs) t at len all inside (parts_of ws) new same in
    let xs = take at (parts_of vs) ++ parts_of ws ++ drop (at + len) (parts_of vs) in
    record {
      fits = (part_count-data_row (take at (parts_of vs) ++ parts_of ws ++ drop (at + len) (parts_of vs)) ∙ r.0 ∙ length-parts_of vs ∙ h.0, r.1);
      bits = row_bits-data_row (take at (parts_of vs) ++ parts_of ws ++ drop (at + len) (parts_of vs)) ∙ bits_with-slice (parts_of vs) t at len all inside (parts_of ws) new same
          ∙ ap (bits_with (at * bit_count t) (flat_map value_bits (parts_of ws))) (sym (row_bits-parts_of vs)) ∙ ap (λ bs. bits_with (at * bit_count t) bs (row_bits vs)) (sym (row_bits-parts_of ws));
    }) f
with_part-IsWith (int_value m b) (int_type n) (Slice at len) p w h e f = absurd (part_if-holds (λ q. FitsType w q.of → ⊥) _ _ (int_type len) p e (λ g i. i) f)
with_part-IsWith (array_value vs) (array_type n t) (Slice at len) p w h e f = absurd (part_if-holds (λ q. FitsType w q.of → ⊥) _ _ (array_type len t) p e (λ g i. i) f)
with_part-IsWith (int_value m b) (int_type n) (Field k) p w h e f = absurd (none-some _ e)
with_part-IsWith (tuple_value vs) (tuple_type ts) (Slice at len) p w h e f = absurd (none-some _ e)
with_part-IsWith (time_value d) time_type s p w h e f = absurd (none-some _ e)
with_part-IsWith _ _ s p w h e f = absurd h
