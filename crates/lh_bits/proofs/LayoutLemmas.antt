-- Walks along the parts of a value and along bits.
use Rattle.std.proofs.Common.{◌≡◌, ℕ, ◌+◌, ◌-◌, ◌*◌, ◌^◌, ◌<◌, ◌≤◌, suc, Bool, List, [], ◌∷◌, ◌++◌, length, get_or, take, drop, map, refl, ap, sym, ◌∙◌, append_assoc, arith}
use Rattle.std.proofs.lemmas.Nat.{row_fits}
use Rattle.std.proofs.lemmas.List.{length-append, length-drop, drop-drop, drop_all}
use Rattle.lh_types.specs.Types.{TypeTree, more_types, row_of, bit_count, bit_count_row, IsData, AreData}
use Rattle.lh_types.specs.Values.{Datum, DatumRow, no_values, more_values, data_row}
use Rattle.lh_types.specs.ValueOf.{datum_of}
use Rattle.lh_types.specs.Bits.{value_bits, row_bits, value_from_bits, row_from_bits, repeat_parts}
use Rattle.lh_types.specs.declared.val.Val.{Val}
use Rattle.lh_types.proofs.Rows.{row_of-drop, AreData-split, bit_count_row-drop}
use Rattle.lh_types.proofs.DatumRows.{data_row-drop-map}
use Rattle.lh_bits.proofs.ValueBits.{value_from_bits-take}

-- a row with values before it
abbrev pub before_row : List Datum → DatumRow → DatumRow
before_row [] r = r
before_row (v ∷ vs) r = more_values v (before_row vs r)

before_row-push : (vs : List Datum) (v : Datum) (r : DatumRow) → before_row (vs ++ v ∷ []) r ≡ before_row vs (more_values v r)
before_row-push [] v r = refl
before_row-push (w ∷ vs) v r = ap (more_values w) (before_row-push vs v r)

before_row-none : (vs : List Datum) → before_row vs no_values ≡ data_row vs
before_row-none [] = refl
before_row-none (v ∷ vs) = ap (more_values v) (before_row-none vs)

-- a walk along the bits of the elements of an array
pub record ElementsAt (t : TypeTree) (n lo : ℕ) (b : List Bool) (i : ℕ) (to : List Datum) : Type 0 where
  pub rest : before_row to (repeat_parts (n - i) (value_from_bits t) (bit_count t) (drop (lo + i * bit_count t) b)) ≡ repeat_parts n (value_from_bits t) (bit_count t) (drop lo b)

pub ElementsAt-start : (t : TypeTree) (n lo : ℕ) (b : List Bool) → ElementsAt t n lo b 0 []
ElementsAt-start t n lo b = record { rest = let e : lo + 0 * bit_count t ≡ lo = omega arith in let f : n - 0 ≡ n = omega arith in rw (e, f) refl }

pub element_inside : (t : TypeTree) (n lo len i : ℕ) → lo + n * bit_count t ≤ len → i < n → lo + i * bit_count t + bit_count t ≤ len
element_inside t n lo len i h k = omega (arith, h, row_fits i (bit_count t) n (bit_count t) k (omega arith))

pub ElementsAt-next : (t : TypeTree) (n lo : ℕ) (b : List Bool) (i : ℕ) (to next : List Datum) (v : Datum) → IsData t → lo + n * bit_count t ≤ length b → i < n → ElementsAt t n lo b i to
    → v ≡ value_from_bits t (drop (lo + i * bit_count t) b) → next ≡ to ++ v ∷ [] → ElementsAt t n lo b (i + 1) next
ElementsAt-next t n lo b i to next v d h k w e g =
    let inside = element_inside t n lo (length b) i h k in
    let left : n - i ≡ suc (n - (i + 1)) = omega arith in
    let here : value_from_bits t (take (bit_count t) (drop (lo + i * bit_count t) b))
    ≡ v = value_from_bits-take t d (drop (lo + i * bit_count t) b) (omega (arith, length-drop (lo + i * bit_count t) b, inside)) ∙ sym e in
    let further : drop (bit_count t) (drop (lo + i * bit_count t) b) ≡ drop (lo + (i + 1) * bit_count t) b = drop-drop (bit_count t) (lo + i * bit_count t) b
    ∙ ap (λ m. drop m b) (let s : lo + i * bit_count t + bit_count t ≡ lo + (i + 1) * bit_count t = omega arith in s) in
    let step : repeat_parts (n - i) (value_from_bits t) (bit_count t) (drop (lo + i * bit_count t) b)
    ≡ more_values v (repeat_parts (n - (i + 1)) (value_from_bits t) (bit_count t) (drop (lo + (i + 1) * bit_count t) b)) =
    ap (λ m. repeat_parts m (value_from_bits t) (bit_count t) (drop (lo + i * bit_count t) b)) left
    ∙ ap (λ x. more_values x (repeat_parts (n - (i + 1)) (value_from_bits t) (bit_count t) (drop (bit_count t) (drop (lo + i * bit_count t) b)))) here
    ∙ ap (λ bs. more_values v (repeat_parts (n - (i + 1)) (value_from_bits t) (bit_count t) bs)) further in
    record {
      rest = ap (λ vs. before_row vs (repeat_parts (n - (i + 1)) (value_from_bits t) (bit_count t) (drop (lo + (i + 1) * bit_count t) b))) g ∙ before_row-push to v _
          ∙ sym (ap (before_row to) step) ∙ w.rest;
    }

pub ElementsAt-end : (t : TypeTree) (n lo : ℕ) (b : List Bool) (i : ℕ) (to : List Datum) → ElementsAt t n lo b i to → n ≤ i → data_row to ≡ repeat_parts n (value_from_bits t) (bit_count t) (drop lo b)
ElementsAt-end t n lo b i to w h = let none : n - i ≡ 0 = omega arith in
    sym (before_row-none to) ∙ ap (λ m. before_row to (repeat_parts m (value_from_bits t) (bit_count t) (drop (lo + i * bit_count t) b))) (sym none) ∙ w.rest

-- a walk along the bits of the fields of a struct
pub record FieldsAt (all xs : List TypeTree) (lo : ℕ) (b : List Bool) (i at : ℕ) (to : List Datum) : Type 0 where
  pub whole : xs ≡ all
  pub data_left : AreData (row_of (drop i xs))
  pub inside : at + bit_count_row (row_of (drop i xs)) ≤ length b
  pub rest : before_row to (row_from_bits (row_of (drop i xs)) (drop at b)) ≡ row_from_bits (row_of all) (drop lo b)

pub FieldsAt-next : (all xs : List TypeTree) (lo : ℕ) (b : List Bool) (i at to_at : ℕ) (to next : List Datum) (x : TypeTree) (v : Datum) → FieldsAt all xs lo b i at to → i < length xs
    → x ≡ get_or xs i x → v ≡ value_from_bits x (drop at b) → next ≡ to ++ v ∷ [] → to_at ≡ at + bit_count x → FieldsAt all xs lo b (i + 1) to_at next
FieldsAt-next all xs lo b i at to_at to next x v w h e f g j =
    let d = AreData-split xs i x w.data_left h e in
    let bits = bit_count_row-drop xs i x h e in
    let row : row_of (drop i xs) ≡ more_types x (row_of (drop (i + 1) xs)) = row_of-drop xs i x h ∙ ap (λ t. more_types t (row_of (drop (i + 1) xs))) (sym e) in
    let here : value_from_bits x (take (bit_count x) (drop at b)) ≡ v = value_from_bits-take x d.0 (drop at b) (omega (arith, length-drop at b, w.inside, bits)) ∙ sym f in
    let step : row_from_bits (row_of (drop i xs)) (drop at b) ≡ more_values v (row_from_bits (row_of (drop (i + 1) xs)) (drop to_at b)) =
    ap (λ r. row_from_bits r (drop at b)) row ∙ ap (λ y. more_values y (row_from_bits (row_of (drop (i + 1) xs)) (drop (bit_count x) (drop at b)))) here
    ∙ ap (λ bs. more_values v (row_from_bits (row_of (drop (i + 1) xs)) bs)) (drop-drop (bit_count x) at b ∙ ap (λ m. drop m b) (sym j)) in
    record {
      whole = w.whole;
      data_left = d.1;
      inside = omega (arith, w.inside, bits);
      rest = ap (λ vs. before_row vs (row_from_bits (row_of (drop (i + 1) xs)) (drop to_at b))) g ∙ before_row-push to v _ ∙ sym (ap (before_row to) step) ∙ w.rest;
    }

pub FieldsAt-end : (all xs : List TypeTree) (lo : ℕ) (b : List Bool) (i at : ℕ) (to : List Datum) → FieldsAt all xs lo b i at to → length xs ≤ i → data_row to ≡ row_from_bits (row_of all) (drop lo b)
FieldsAt-end all xs lo b i at to w h = sym (before_row-none to) ∙ ap (λ ts. before_row to (row_from_bits (row_of ts) (drop at b))) (sym (drop_all i xs h)) ∙ w.rest

pub FieldsAt-inside : (all xs : List TypeTree) (lo : ℕ) (b : List Bool) (i at : ℕ) (to : List Datum) (x : TypeTree) → FieldsAt all xs lo b i at to → i < length xs → x ≡ get_or xs i x
    → at + bit_count x ≤ length b
FieldsAt-inside all xs lo b i at to x w h e = omega (arith, w.inside, bit_count_row-drop xs i x h e)

-- a walk along the values whose bits are appended
pub record AppendsAt (start to : List Bool) (all : List Datum) (vs : List Val) (i : ℕ) : Type 0 where
  pub whole : map datum_of vs ≡ all
  pub rest : to ++ row_bits (data_row (drop i (map datum_of vs))) ≡ start ++ row_bits (data_row all)

pub AppendsAt-next : (start to next : List Bool) (all : List Datum) (vs : List Val) (i : ℕ) (v : Val) → AppendsAt start to all vs i → i < length vs → v ≡ get_or vs i v
    → next ≡ to ++ value_bits (datum_of v) → AppendsAt start next all vs (i + 1)
AppendsAt-next start to next all vs i v w h e g = record {
  whole = w.whole;
  rest = ap (λ bs. bs ++ row_bits (data_row (drop (i + 1) (map datum_of vs)))) g ∙ append_assoc to (value_bits (datum_of v)) _ ∙ ap (λ r. to ++ row_bits r) (sym (data_row-drop-map vs i v h e))
      ∙ w.rest;
}

-- the bits of the next value have room where all have
pub AppendsAt-room : (start to : List Bool) (all : List Datum) (vs : List Val) (i : ℕ) (v : Val) → AppendsAt start to all vs i → i < length vs → v ≡ get_or vs i v
    → length start + length (row_bits (data_row all)) < 2 ^ 32 → length to + length (value_bits (datum_of v)) < 2 ^ 32
AppendsAt-room start to all vs i v w h e room =
    let here : length (row_bits (data_row (drop i (map datum_of vs)))) ≡ length (value_bits (datum_of v) ++ row_bits (data_row (drop (i + 1) (map datum_of vs)))) =
    ap (λ r. length (row_bits r)) (data_row-drop-map vs i v h e) in
    let whole : length (to ++ row_bits (data_row (drop i (map datum_of vs)))) ≡ length (start ++ row_bits (data_row all)) = ap length w.rest in
    omega (
      arith,
      here,
      whole,
      length-append to (row_bits (data_row (drop i (map datum_of vs)))),
      length-append start (row_bits (data_row all)),
      length-append (value_bits (datum_of v))
          (row_bits (data_row (drop (i + 1) (map datum_of vs)))),
      room,
    )
