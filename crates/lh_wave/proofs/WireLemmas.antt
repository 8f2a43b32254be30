-- The bits of a value, written lowest first.
use Rattle.std.proofs.Common.{◌≡◌, ℕ, ◌+◌, ◌-◌, ◌<◌, ◌≤◌, ◌/◌, ◌%◌, suc, Bool, true, false, List, [], ◌∷◌, ◌++◌, length, get_or, take, drop, map, refl, ap, sym, ◌∙◌, append_assoc, cond, arith, eq-eqb, subst}
use Rattle.std.specs.Prelude.{codes, reverse, nat_eq}
use Rattle.std.proofs.lemmas.List.{drop_all, length-map, length-append, reverse-append, map-append}
use Rattle.std.proofs.lemmas.Bool.Decides.{nat_tests}
use Rattle.std.proofs.Math.Seq.{take-append_seam, drop-append_seam}
use Rattle.lh_text_buffer.specs.Writing.{Written, Writes, Leaves}
use Rattle.lh_text_buffer.proofs.Parts.{all-left, less-left, none-left, two-written}
use Rattle.lh_types.specs.Values.{Datum, data_row}
use Rattle.lh_types.specs.ValueOf.{datum_of}
use Rattle.lh_types.specs.Bits.{value_bits, row_bits, number_bits}
use Rattle.lh_types.specs.declared.val.Val.{Val}
use Rattle.lh_types.proofs.DatumRows.{data_row-drop-map}
use Rattle.lh_bits.proofs.NumberBits.{length-number_bits}
use Rattle.lh_wave.specs.WaveText.{bit_byte, bits_text, marked_bits}

pub record BitsAt (start to : Written) (all : List Datum) (vs : List Val) (i : ℕ) : Type 0 where
  pub whole : map datum_of vs ≡ all
  pub rest : Leaves start to (map bit_byte (row_bits (data_row (drop i (map datum_of vs))))) (map bit_byte (row_bits (data_row all)))

pub BitsAt-start : (start : Written) (all : List Datum) (vs : List Val) → map datum_of vs ≡ all → BitsAt start start all vs 0
BitsAt-start start all vs w = record { whole = w; rest = all-left start _ _ (ap (λ d. map bit_byte (row_bits (data_row d))) w) }

pub BitsAt-next : (start to next : Written) (all : List Datum) (vs : List Val) (i : ℕ) (v : Val) → BitsAt start to all vs i → i < length vs → v ≡ get_or vs i v
    → Writes to next (map bit_byte (value_bits (datum_of v))) → BitsAt start next all vs (i + 1)
BitsAt-next start to next all vs i v w h e g =
    let more = row_bits (data_row (drop (i + 1) (map datum_of vs))) in
    record {
      whole = w.whole;
      rest = less-left start to next (map bit_byte (value_bits (datum_of v))) (map bit_byte more) (map bit_byte (row_bits (data_row (drop i (map datum_of vs))))) (map bit_byte (row_bits (data_row all)))
          (ap (λ r. map bit_byte (row_bits r)) (data_row-drop-map vs i v h e) ∙ map-append bit_byte (value_bits (datum_of v)) more) g w.rest;
    }

pub BitsAt-end : (start to : Written) (all : List Datum) (vs : List Val) (i : ℕ) → BitsAt start to all vs i → length vs ≤ i → Writes start to (map bit_byte (row_bits (data_row all)))
BitsAt-end start to all vs i w h =
    let l : length (map datum_of vs) ≤ i = omega (arith, length-map vs datum_of) in
    none-left start to (map bit_byte (row_bits (data_row (drop i (map datum_of vs))))) (map bit_byte (row_bits (data_row all)))
    (ap (λ d. map bit_byte (row_bits (data_row d))) (drop_all i (map datum_of vs) l)) w.rest

reverse-map : {A B : Type 0} (f : A → B) (xs : List A) → reverse (map f xs) ≡ map f (reverse xs)
reverse-map f [] = refl
reverse-map f (x ∷ xs) = reverse-append (f x ∷ []) (map f xs) ∙ ap (λ l. l ++ f x ∷ []) (reverse-map f xs) ∙ sym (ap (map f) (reverse-append (x ∷ []) xs) ∙ map-append f (reverse xs) (x ∷ []))

marked_by : (bits : List Bool) (b : Bool) → nat_eq (length bits) 1 ≡ b → marked_bits bits ≡ cond b (bits_text bits) (codes "b" ++ bits_text bits ++ codes " ")
marked_by bits b e = ap (λ t. cond t (bits_text bits) (codes "b" ++ bits_text bits ++ codes " ")) e

few_bytes : (old bytes : List ℕ) → length (old ++ bytes) - length old ≡ length bytes
few_bytes old bytes = let l = length-append old bytes in omega (arith, l)

one_turned : (bits : List Bool) → length bits ≡ 1 → map bit_byte bits ≡ bits_text bits
one_turned [] h = refl
one_turned (b ∷ []) h = refl
one_turned (b ∷ c ∷ bits) h = absurd (omega arith)

-- of the bytes that were written there is one, and so there was one bit
pub one_bit : (count : ℕ) (start to : Written) (bits : List Bool) → count ≡ length to.items - length start.items → count ≡ 1 → Writes start to (map bit_byte bits) → Writes start to (marked_bits bits)
one_bit count start to bits c one g w =
    let written = g w in
    let single : length bits ≡ 1 =
    sym (length-map bits bit_byte) ∙ sym (few_bytes start.items (map bit_byte bits)) ∙ ap (λ l. length l - length start.items) (sym written.1) ∙ sym c ∙ one in
    (written.0, written.1 ∙ ap (λ l. start.items ++ l) (one_turned bits single ∙ sym (marked_by bits true (eq-eqb (length bits) 1 single))))

turned_back : (old bytes : List ℕ) → take (length old) (old ++ bytes) ++ reverse (drop (length old) (old ++ bytes)) ≡ old ++ reverse bytes
turned_back old bytes = ap (λ l. l ++ reverse (drop (length old) (old ++ bytes))) (take-append_seam old bytes) ∙ ap (λ l. old ++ reverse l) (drop-append_seam old bytes)

-- bits and the `b` behind them, turned round, and a space behind all
pub more_bits : (count place : ℕ) (start to marked turned next : Written) (bits : List Bool) → count ≡ length to.items - length start.items → (count ≡ 1 → ⊥) → place ≡ length start.items
    → Writes start to (map bit_byte bits) → Writes to marked (98 ∷ []) → turned.items ≡ take place marked.items ++ reverse (drop place marked.items) → turned.is_whole ≡ marked.is_whole
    → Writes turned next (32 ∷ []) → Writes start next (marked_bits bits)
more_bits count place start to marked turned next bits c many p g m t same n w =
    let last = n w in
    let written = two-written start to marked (map bit_byte bits) (98 ∷ []) g m (sym same ∙ last.0) in
    let first = g (m (sym same ∙ last.0)).0 in
    let other : nat_eq (length bits) 1 ≡ false =
    grind (arith, nat_tests, many, c, ap (λ l. length l - length start.items) first.1, few_bytes start.items (map bit_byte bits), length-map bits bit_byte) in (
      written.0,
      last.1
          ∙ ap (λ l. l ++ 32 ∷ []) (t ∙ ap (λ k. take k marked.items ++ reverse (drop k marked.items)) p
          ∙ ap (λ l. take (length start.items) l ++ reverse (drop (length start.items) l)) written.1 ∙ turned_back start.items (map bit_byte bits ++ 98 ∷ [])
          ∙ ap (λ l. start.items ++ l) (reverse-append (map bit_byte bits) (98 ∷ []) ∙ ap (λ l. 98 ∷ l) (reverse-map bit_byte bits)))
          ∙ append_assoc start.items (98 ∷ bits_text bits) (32 ∷ [])
          ∙ ap (λ l. start.items ++ l) (sym (marked_by bits false other)),
    )

-- of the bits of a number, those of what is left of it are left
abbrev pub NumberLeft : (start to : Written) → (width number k rest : ℕ) → Type 0
NumberLeft start to width number k rest = Leaves start to (map bit_byte (number_bits (width - k) rest)) (map bit_byte (number_bits width number))

pub number_start : (start : Written) (w n : ℕ) → NumberLeft start start w n 0 n
number_start start w n = let all : w - 0 ≡ w = omega arith in all-left start _ _ (ap (λ m. map bit_byte (number_bits m n)) all)

pub number_next : (start to next : Written) (w number k n : ℕ) → k < w → Writes to next (bit_byte (nat_eq (n % 2) 1) ∷ []) → NumberLeft start to w number k n
    → NumberLeft start next w number (k + 1) (n / 2)
number_next start to next w number k n h g e =
    let left : w - k ≡ suc (w - (k + 1)) = omega arith in
    less-left start to next (bit_byte (nat_eq (n % 2) 1) ∷ []) (map bit_byte (number_bits (w - (k + 1)) (n / 2))) (map bit_byte (number_bits (w - k) n)) (map bit_byte (number_bits w number))
    (ap (λ m. map bit_byte (number_bits m n)) left) g e

pub number_end : (start to : Written) (w number k n : ℕ) → w ≤ k → NumberLeft start to w number k n → Writes start to (map bit_byte (number_bits w number))
number_end start to w number k n h e =
    let none : w - k ≡ 0 = omega arith in
    none-left start to (map bit_byte (number_bits (w - k) n)) (map bit_byte (number_bits w number)) (ap (λ m. map bit_byte (number_bits m n)) none) e

-- a vector of some other number of bits than one
pub many_marked : (w n : ℕ) → (w ≡ 1 → ⊥) → codes "b" ++ bits_text (number_bits w n) ++ codes " " ≡ marked_bits (number_bits w n)
many_marked w n many =
    let other : nat_eq (length (number_bits w n)) 1 ≡ false = grind (arith, nat_tests, length-number_bits w n) in
    sym (marked_by (number_bits w n) false other)

pub vector_text : (w n : ℕ) (to marked bits next : Written) (digits : List ℕ) → (w ≡ 1 → ⊥) → digits ≡ bits_text (number_bits w n) → Writes to marked (codes "b") → Writes marked bits digits
    → Writes bits next (codes " ") → Writes to next (marked_bits (number_bits w n))
vector_text w n to marked bits next digits many d b g s =
    subst (Writes to next) (append_assoc (codes "b") digits (codes " ") ∙ ap (λ l. codes "b" ++ l ++ codes " ") d ∙ many_marked w n many)
    (two-written to bits next (codes "b" ++ digits) (codes " ") (two-written to marked bits (codes "b") digits b g) s)
