-- Values that are read from bits are the same where no bit of theirs differs, and changes then lead from the one frame to the next.
use Rattle.std.proofs.Common.{◌≡◌, ℕ, zero, suc, ◌+◌, ◌^◌, ◌<◌, Bool, true, false, List, [], ◌∷◌, ◌++◌, length, take, drop, set, refl, ap, sym, ◌∙◌, append_assoc, nat_eq, if◌then◌else◌, arith}
use Rattle.std.proofs.lemmas.List.{length-append, set_at}
use Rattle.std.proofs.lemmas.Bool.Decides.{nat_tests}
use Rattle.lh_types.specs.Types.{TypeTree, TypeRow, int_type, time_type, void_type, array_type, tuple_type, signal_type, pointer_type, no_types, more_types, bit_count}
use Rattle.lh_types.specs.Values.{Datum, int_value, array_value, tuple_value, more_values}
use Rattle.lh_types.specs.Bits.{value_bits, row_bits, value_from_bits, row_from_bits, repeat_parts, number_bits, bits_number, differing}
use Rattle.lh_types.specs.Pictures.{Showing}
use Rattle.lh_bits.proofs.NumberBits.{length-number_bits, bits_number-number_bits}
use Rattle.lh_unit.specs.Design.{Signal}
use Rattle.lh_unit.specs.Trace.{signal_value}
use Rattle.lh_unit.specs.Frames.{toggled, change_if, changed_from, signal_values}
use Rattle.lh_wave.specs.Recorded.{changed_values}
use Rattle.lh_trace_laws.proofs.ProbesLaw.{number_below}

-- lists of one length that differ nowhere are the same
same_bits : (xs ys : List Bool) → length xs ≡ length ys → differing xs ys ≡ 0 → xs ≡ ys
same_bits [] [] l d = refl
same_bits [] (y ∷ ys) l d = absurd (omega arith)
same_bits (x ∷ xs) [] l d = absurd (omega arith)
same_bits (true ∷ xs) (true ∷ ys) l d = ap (λ bs. true ∷ bs) (same_bits xs ys (omega arith) (omega arith))
same_bits (true ∷ xs) (false ∷ ys) l d = absurd (omega arith)
same_bits (false ∷ xs) (true ∷ ys) l d = absurd (omega arith)
same_bits (false ∷ xs) (false ∷ ys) l d = ap (λ bs. false ∷ bs) (same_bits xs ys (omega arith) (omega arith))

-- two lists of one length in front can be told from what follows
split : (a b c d : List Bool) → length a ≡ length b → a ++ c ≡ b ++ d → (a ≡ b) × (c ≡ d)
split [] [] c d l e = (refl, e)
split [] (y ∷ b) c d l e = absurd (omega arith)
split (x ∷ a) [] c d l e = absurd (omega arith)
split (x ∷ a) (y ∷ b) c d l e =
    let h : x ≡ y = cc in
    let t : a ++ c ≡ b ++ d = cc in
    let s = split a b c d (omega arith) t in
    (ap (λ z. z ∷ a) h ∙ ap (λ bs. y ∷ bs) s.0, s.1)

same_number : (n a b : ℕ) → a < 2 ^ n → b < 2 ^ n → number_bits n a ≡ number_bits n b → a ≡ b
same_number n a b p q e = sym (bits_number-number_bits n a p) ∙ ap bits_number e ∙ bits_number-number_bits n b q

parts_length : (n w : ℕ) (f : List Bool → Datum) → ((x y : List Bool) → length (value_bits (f x)) ≡ length (value_bits (f y))) → (x y : List Bool)
    → length (row_bits (repeat_parts n f w x)) ≡ length (row_bits (repeat_parts n f w y))
parts_length zero w f h x y = refl
parts_length (suc n) w f h x y =
    let one : length (value_bits (f (take w x))) ≡ length (value_bits (f (take w y))) = h (take w x) (take w y) in
    let more : length (row_bits (repeat_parts n f w (drop w x))) ≡ length (row_bits (repeat_parts n f w (drop w y))) = parts_length n w f h (drop w x) (drop w y) in
    omega (arith, length-append (value_bits (f (take w x))) (row_bits (repeat_parts n f w (drop w x))), length-append (value_bits (f (take w y))) (row_bits (repeat_parts n f w (drop w y))))

mutual
  -- what is read as one type has one number of bits
  read_length : (t : TypeTree) (x y : List Bool) → length (value_bits (value_from_bits t x)) ≡ length (value_bits (value_from_bits t y))
  read_length (int_type n) x y = length-number_bits n (bits_number (take n x)) ∙ sym (length-number_bits n (bits_number (take n y)))
  read_length (array_type n t) x y = parts_length n (bit_count t) (value_from_bits t) (read_length t) x y
  read_length (tuple_type ts) x y = read_length-row ts x y
  read_length time_type x y = refl
  read_length void_type x y = refl
  read_length (signal_type t) x y = read_length t x y
  read_length (pointer_type t) x y = refl

  read_length-row : (ts : TypeRow) (x y : List Bool) → length (row_bits (row_from_bits ts x)) ≡ length (row_bits (row_from_bits ts y))
  read_length-row no_types x y = refl
  read_length-row (more_types t ts) x y =
      let one : length (value_bits (value_from_bits t (take (bit_count t) x))) ≡ length (value_bits (value_from_bits t (take (bit_count t) y))) =
      read_length t (take (bit_count t) x) (take (bit_count t) y) in
      let more : length (row_bits (row_from_bits ts (drop (bit_count t) x))) ≡ length (row_bits (row_from_bits ts (drop (bit_count t) y))) =
      read_length-row ts (drop (bit_count t) x) (drop (bit_count t) y) in
      omega (
        arith,
        length-append (value_bits (value_from_bits t (take (bit_count t) x))) (row_bits (row_from_bits ts (drop (bit_count t) x))),
        length-append (value_bits (value_from_bits t (take (bit_count t) y))) (row_bits (row_from_bits ts (drop (bit_count t) y))),
      )

parts_same : (n w : ℕ) (f : List Bool → Datum) → ((x y : List Bool) → length (value_bits (f x)) ≡ length (value_bits (f y))) → ((x y : List Bool) → value_bits (f x) ≡ value_bits (f y) → f x ≡ f y)
    → (x y : List Bool)
    → row_bits (repeat_parts n f w x) ≡ row_bits (repeat_parts n f w y) → repeat_parts n f w x ≡ repeat_parts n f w y
parts_same zero w f h g x y e = refl
parts_same (suc n) w f h g x y e =
    let s = split (value_bits (f (take w x))) (value_bits (f (take w y))) (row_bits (repeat_parts n f w (drop w x))) (row_bits (repeat_parts n f w (drop w y))) (h (take w x) (take w y)) e in
    ap (λ v. more_values v (repeat_parts n f w (drop w x))) (g (take w x) (take w y) s.0) ∙ ap (more_values (f (take w y))) (parts_same n w f h g (drop w x) (drop w y) s.1)

mutual
  -- values that are read as one type are the same where their bits are
  read_same : (t : TypeTree) (x y : List Bool) → value_bits (value_from_bits t x) ≡ value_bits (value_from_bits t y) → value_from_bits t x ≡ value_from_bits t y
  read_same (int_type n) x y e = ap (int_value n) (same_number n (bits_number (take n x)) (bits_number (take n y)) (number_below n x) (number_below n y) e)
  read_same (array_type n t) x y e = ap array_value (parts_same n (bit_count t) (value_from_bits t) (read_length t) (read_same t) x y e)
  read_same (tuple_type ts) x y e = ap tuple_value (read_same-row ts x y e)
  read_same time_type x y e = refl
  read_same void_type x y e = refl
  read_same (signal_type t) x y e = read_same t x y e
  read_same (pointer_type t) x y e = refl

  read_same-row : (ts : TypeRow) (x y : List Bool) → row_bits (row_from_bits ts x) ≡ row_bits (row_from_bits ts y) → row_from_bits ts x ≡ row_from_bits ts y
  read_same-row no_types x y e = refl
  read_same-row (more_types t ts) x y e =
      let s = split (value_bits (value_from_bits t (take (bit_count t) x))) (value_bits (value_from_bits t (take (bit_count t) y))) (row_bits (row_from_bits ts (drop (bit_count t) x)))
      (row_bits (row_from_bits ts (drop (bit_count t) y)))
      (read_length t (take (bit_count t) x) (take (bit_count t) y)) e in
      ap (λ v. more_values v (row_from_bits ts (drop (bit_count t) x))) (read_same t (take (bit_count t) x) (take (bit_count t) y) s.0)
      ∙ ap (more_values (value_from_bits t (take (bit_count t) y))) (read_same-row ts (drop (bit_count t) x) (drop (bit_count t) y) s.1)

-- a signal of which no bit toggles has the same value
untoggled : (s : Signal) (old now : List Bool) → toggled (signal_value old s) (signal_value now s) ≡ 0 → signal_value old s ≡ signal_value now s
untoggled s old now e = read_same s.ty _ _ (same_bits _ _ (read_length s.ty _ _) e)

-- a value written at the end of the values in front
set_behind : (done : List Datum) (v w : Datum) (more : List Datum) (k : ℕ) → length done ≡ k → set (done ++ v ∷ more) k w ≡ (done ++ w ∷ []) ++ more
set_behind done v w more k e = set_at done v more w k e ∙ sym (append_assoc done (w ∷ []) more)

is_zero : (n : ℕ) → nat_eq n 0 ≡ true → n ≡ 0
is_zero n e = grind (arith, nat_tests)

-- one signal's change, if it has one, written over its old value
one_leads : (done : List Datum) (v w : Datum) (vs : List Datum) (k n : ℕ) (rest : List Showing) (whole : List Datum) → length done ≡ k → (n ≡ 0 → v ≡ w)
    → changed_values ((done ++ w ∷ []) ++ vs) rest ≡ whole → changed_values (done ++ v ∷ vs) (change_if k n w rest) ≡ whole
one_leads done v w vs k n rest whole l h g = by (nat_eq n 0) refl
  where
    by : (b : Bool) → nat_eq n 0 ≡ b → changed_values (done ++ v ∷ vs) (if b then rest else record { signal = k; toggled = n; value = w } ∷ rest) ≡ whole
    by true e = ap (λ x. changed_values (done ++ x ∷ vs) rest) (h (is_zero n e)) ∙ ap (λ xs. changed_values xs rest) (sym (append_assoc done (w ∷ []) vs)) ∙ g
    by false e = ap (λ xs. changed_values xs rest) (set_behind done v w vs k l) ∙ g

-- the changes of the signals behind some, written over their old values
changes_lead : (done : List Datum) (ss : List Signal) (old now : List Bool) (k : ℕ) → length done ≡ k
    → changed_values (done ++ signal_values ss old) (changed_from k (signal_values ss old) (signal_values ss now)) ≡ done ++ signal_values ss now
changes_lead done [] old now k e = refl
changes_lead done (s ∷ ss) old now k e =
    let l : length (done ++ signal_value now s ∷ []) ≡ k + 1 = length-append done (signal_value now s ∷ []) ∙ ap (λ n. n + 1) e in
    one_leads done (signal_value old s) (signal_value now s) (signal_values ss old) k (toggled (signal_value old s) (signal_value now s))
    (changed_from (k + 1) (signal_values ss old) (signal_values ss now))
    (done ++ signal_values (s ∷ ss) now) e (untoggled s old now)
    (changes_lead (done ++ signal_value now s ∷ []) ss old now (k + 1) l ∙ append_assoc done (signal_value now s ∷ []) (signal_values ss now))

-- the changes between two frames lead from the values of the one to those of the other
pub changes_reach : (ss : List Signal) (old now : List Bool) → changed_values (signal_values ss old) (changed_from 0 (signal_values ss old) (signal_values ss now)) ≡ signal_values ss now
changes_reach ss old now = changes_lead [] ss old now 0 refl
