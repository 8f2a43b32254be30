-- The bits of a value, and the value of bits.
use Rattle.std.proofs.Common.{◌≡◌, ℕ, ◌+◌, ◌*◌, ◌^◌, ◌<◌, ◌≤◌, zero, suc, Bool, List, ◌++◌, length, take, drop, refl, ap, sym, ◌∙◌, subst, add-one, arith}
use Rattle.std.proofs.Math.Nat.{suc-mul}
use Rattle.std.proofs.Math.Seq.{take-add}
use Rattle.std.proofs.lemmas.List.{length-append, length-drop, take_all, take_at, drop_at, take-take, length-take-le}
use Rattle.lh_types.specs.Types.{TypeTree, TypeRow, int_type, time_type, void_type, array_type, tuple_type, signal_type, pointer_type, no_types, more_types, bit_count, bit_count_row, IsData, AreData}
use Rattle.lh_types.specs.Values.{Datum, DatumRow, int_value, time_value, array_value, tuple_value, no_values, more_values}
use Rattle.lh_types.specs.Fits.{FitsType, PartsFit, FitsRow, part_count}
use Rattle.lh_types.specs.Bits.{value_bits, row_bits, value_from_bits, row_from_bits, repeat_parts, number_bits, bits_number}
use Rattle.lh_bits.proofs.NumberBits.{length-number_bits, bits_number-number_bits, number_bits-bits_number, bits_number-lt}

mutual
  -- a value has as many bits as its type
  pub length-value_bits : (v : Datum) (t : TypeTree) → FitsType v t → length (value_bits v) ≡ bit_count t
  length-value_bits (int_value w b) (int_type n) h = length-number_bits w b ∙ h.0
  length-value_bits (time_value d) time_type h = refl
  length-value_bits (array_value vs) (array_type n t) h = length-row_bits vs t h.1 ∙ ap (λ k. k * bit_count t) h.0
  length-value_bits (tuple_value vs) (tuple_type ts) h = length-row_bits-fields vs ts h
  length-value_bits _ _ h = absurd h

  pub length-row_bits : (vs : DatumRow) (t : TypeTree) → PartsFit vs t → length (row_bits vs) ≡ part_count vs * bit_count t
  length-row_bits no_values t h = omega arith
  length-row_bits (more_values v vs) t h = omega (arith, length-append (value_bits v) (row_bits vs), length-value_bits v t h.0, length-row_bits vs t h.1)

  pub length-row_bits-fields : (vs : DatumRow) (ts : TypeRow) → FitsRow vs ts → length (row_bits vs) ≡ bit_count_row ts
  length-row_bits-fields no_values no_types h = refl
  length-row_bits-fields (more_values v vs) (more_types t ts) h = omega (arith, length-append (value_bits v) (row_bits vs), length-value_bits v t h.0, length-row_bits-fields vs ts h.1)
  length-row_bits-fields _ _ h = absurd h

mutual
  -- the value of the bits of a value is the value
  pub value_from_bits-value_bits : (v : Datum) (t : TypeTree) → IsData t → FitsType v t → value_from_bits t (value_bits v) ≡ v
  value_from_bits-value_bits (int_value w b) (int_type n) d h =
      let whole : take n (number_bits w b) ≡ number_bits w b = take_all n (number_bits w b) (omega (arith, length-number_bits w b, h.0)) in
      let fits : b < 2 ^ w = subst (λ k. b < 2 ^ k) (sym h.0) h.1 in
      ap (λ bs. int_value n (bits_number bs)) whole ∙ ap (int_value n) (bits_number-number_bits w b fits) ∙ ap (λ k. int_value k b) (sym h.0)
  value_from_bits-value_bits (array_value vs) (array_type n t) d h = ap (λ k. array_value (repeat_parts k (value_from_bits t) (bit_count t) (row_bits vs))) (sym h.0)
      ∙ ap array_value (repeat_parts-row_bits vs t d.0 h.1)
  value_from_bits-value_bits (tuple_value vs) (tuple_type ts) d h = ap tuple_value (row_from_bits-row_bits vs ts d.0 h)
  value_from_bits-value_bits (time_value t) time_type d h = absurd d
  value_from_bits-value_bits _ _ d h = absurd h

  pub repeat_parts-row_bits : (vs : DatumRow) (t : TypeTree) → IsData t → PartsFit vs t → repeat_parts (part_count vs) (value_from_bits t) (bit_count t) (row_bits vs) ≡ vs
  repeat_parts-row_bits no_values t d h = refl
  repeat_parts-row_bits (more_values v vs) t d h =
      let l = length-value_bits v t h.0 in
      let front : take (bit_count t) (value_bits v ++ row_bits vs) ≡ value_bits v = take_at _ _ _ l in
      let back : drop (bit_count t) (value_bits v ++ row_bits vs) ≡ row_bits vs = drop_at _ _ _ l in
      rw (add-one, front, back, value_from_bits-value_bits v t d h.0, repeat_parts-row_bits vs t d h.1) refl

  pub row_from_bits-row_bits : (vs : DatumRow) (ts : TypeRow) → AreData ts → FitsRow vs ts → row_from_bits ts (row_bits vs) ≡ vs
  row_from_bits-row_bits no_values no_types d h = refl
  row_from_bits-row_bits (more_values v vs) (more_types t ts) d h =
      let l = length-value_bits v t h.0 in
      let front : take (bit_count t) (value_bits v ++ row_bits vs) ≡ value_bits v = take_at _ _ _ l in
      let back : drop (bit_count t) (value_bits v ++ row_bits vs) ≡ row_bits vs = drop_at _ _ _ l in
      rw (front, back, value_from_bits-value_bits v t d.0 h.0, row_from_bits-row_bits vs ts d.1 h.1) refl
  row_from_bits-row_bits _ _ d h = absurd h

-- the first w bits are enough for what reads w bits
take_enough : (w : ℕ) (bs : List Bool) → w ≤ length bs → w ≤ length (take w bs)
take_enough w bs h = omega (arith, length-take-le w bs h)

-- what follows the first w bits is long enough for n parts of w bits
left_enough : (n w : ℕ) (bs : List Bool) → suc n * w ≤ length bs → (w ≤ length bs) × (n * w ≤ length (drop w bs))
left_enough n w bs h = let e = suc-mul n w in (omega (arith, e), omega (arith, e, length-drop w bs))

row_bits-repeat_parts : (w : ℕ) (f : List Bool → Datum) → ((bs : List Bool) → w ≤ length bs → value_bits (f bs) ≡ take w bs) → (n : ℕ) (bs : List Bool) → n * w ≤ length bs
    → row_bits (repeat_parts n f w bs) ≡ take (n * w) bs
row_bits-repeat_parts w f each zero bs h = let e : 0 * w ≡ 0 = omega arith in rw e refl
row_bits-repeat_parts w f each (suc n) bs h =
    let k = left_enough n w bs h in
    let e : suc n * w ≡ w + n * w = omega (arith, suc-mul n w) in
    let front : value_bits (f (take w bs)) ≡ take w bs = each (take w bs) (take_enough w bs k.0) ∙ take-take w w bs (omega arith) in
    rw (front, row_bits-repeat_parts w f each n (drop w bs) k.1, e, take-add w (n * w) bs) refl

mutual
  -- the bits of the value of some bits are these bits
  pub value_bits-value_from_bits : (t : TypeTree) → IsData t → (bs : List Bool) → bit_count t ≤ length bs → value_bits (value_from_bits t bs) ≡ take (bit_count t) bs
  value_bits-value_from_bits (int_type n) d bs h = ap (λ k. number_bits k (bits_number (take n bs))) (sym (length-take-le n bs h)) ∙ number_bits-bits_number (take n bs)
  value_bits-value_from_bits (array_type n t) d bs h = row_bits-repeat_parts (bit_count t) (value_from_bits t) (value_bits-value_from_bits t d.0) n bs h
  value_bits-value_from_bits (tuple_type ts) d bs h = row_bits-row_from_bits ts d.0 bs h
  value_bits-value_from_bits time_type d bs h = absurd d
  value_bits-value_from_bits void_type d bs h = absurd d
  value_bits-value_from_bits (signal_type t) d bs h = absurd d
  value_bits-value_from_bits (pointer_type t) d bs h = absurd d

  pub row_bits-row_from_bits : (ts : TypeRow) → AreData ts → (bs : List Bool) → bit_count_row ts ≤ length bs → row_bits (row_from_bits ts bs) ≡ take (bit_count_row ts) bs
  row_bits-row_from_bits no_types d bs h = refl
  row_bits-row_from_bits (more_types t ts) d bs h =
      let front : value_bits (value_from_bits t (take (bit_count t) bs)) ≡ take (bit_count t) bs = value_bits-value_from_bits t d.0 (take (bit_count t) bs) (take_enough _ bs (omega arith))
      ∙ take-take (bit_count t) (bit_count t) bs (omega arith) in
      rw (front, row_bits-row_from_bits ts d.1 (drop (bit_count t) bs) (omega (arith, length-drop (bit_count t) bs)), take-add (bit_count t) (bit_count_row ts) bs) refl

PartsFit-repeat_parts : (w : ℕ) (t : TypeTree) (f : List Bool → Datum) → ((bs : List Bool) → w ≤ length bs → FitsType (f bs) t) → (n : ℕ) (bs : List Bool) → n * w ≤ length bs
    → (part_count (repeat_parts n f w bs) ≡ n) × PartsFit (repeat_parts n f w bs) t
PartsFit-repeat_parts w t f each zero bs h = (refl, tt)
PartsFit-repeat_parts w t f each (suc n) bs h =
    let k = left_enough n w bs h in
    let rest = PartsFit-repeat_parts w t f each n (drop w bs) k.1 in
    (omega (arith, rest.0), (each (take w bs) (take_enough w bs k.0), rest.1))

mutual
  -- the value of some bits is of the type
  pub FitsType-value_from_bits : (t : TypeTree) → IsData t → (bs : List Bool) → bit_count t ≤ length bs → FitsType (value_from_bits t bs) t
  FitsType-value_from_bits (int_type n) d bs h = (refl, subst (λ k. bits_number (take n bs) < 2 ^ k) (length-take-le n bs h) (bits_number-lt (take n bs)))
  FitsType-value_from_bits (array_type n t) d bs h = PartsFit-repeat_parts (bit_count t) t (value_from_bits t) (FitsType-value_from_bits t d.0) n bs h
  FitsType-value_from_bits (tuple_type ts) d bs h = FitsRow-row_from_bits ts d.0 bs h
  FitsType-value_from_bits time_type d bs h = absurd d
  FitsType-value_from_bits void_type d bs h = absurd d
  FitsType-value_from_bits (signal_type t) d bs h = absurd d
  FitsType-value_from_bits (pointer_type t) d bs h = absurd d

  pub FitsRow-row_from_bits : (ts : TypeRow) → AreData ts → (bs : List Bool) → bit_count_row ts ≤ length bs → FitsRow (row_from_bits ts bs) ts
  FitsRow-row_from_bits no_types d bs h = tt
  FitsRow-row_from_bits (more_types t ts) d bs
      h = (FitsType-value_from_bits t d.0 (take (bit_count t) bs) (take_enough _ bs (omega arith)), FitsRow-row_from_bits ts d.1 (drop (bit_count t) bs) (omega (arith, length-drop (bit_count t) bs)))

-- bits past those of the type do not matter
pub value_from_bits-take : (t : TypeTree) → IsData t → (bs : List Bool) → bit_count t ≤ length bs → value_from_bits t (take (bit_count t) bs) ≡ value_from_bits t bs
value_from_bits-take t d bs h = ap (value_from_bits t) (sym (value_bits-value_from_bits t d bs h)) ∙ value_from_bits-value_bits (value_from_bits t bs) t d (FitsType-value_from_bits t d bs h)
