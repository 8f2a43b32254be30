-- How many bits differ: those of two numbers are the ones of their `^`.
use Rattle.std.proofs.Common.{◌≡◌, ℕ, ◌+◌, ◌/◌, ◌%◌, ◌^◌, ◌<◌, ◌≤◌, ◌⊎◌, inl, inr, zero, suc, Bool, true, false, nat_eq, List, [], ◌∷◌, ◌++◌, length, refl, ap, sym, ◌∙◌, arith}
use Rattle.std.specs.Int.{bit_at}
use Rattle.std.specs.Int.Count.{ones, ones_step}
use Rattle.std.specs.Int.RustNames.{bit_xor}
use Rattle.std.proofs.Math.Nat.{pow-suc}
use Rattle.std.proofs.lemmas.Nat.{xor_shr}
use Rattle.std.proofs.lemmas.Nat.Bits.{bit_at_xor, bit_at_lowest}
use Rattle.lh_bits.specs.Flags.{word_bit, flags}
use Rattle.lh_types.specs.Bits.{number_bits, bit_differs, differing}
use Rattle.lh_bits.proofs.FlagRuns.{flags-add, flags-number, length-flags}

pub bit_differs-le : (x y : Bool) → bit_differs x y ≤ 1
bit_differs-le true true = omega arith
bit_differs-le true false = omega arith
bit_differs-le false true = omega arith
bit_differs-le false false = omega arith

pub differing-le : (xs ys : List Bool) → differing xs ys ≤ length xs
differing-le [] ys = omega arith
differing-le (x ∷ xs) [] = omega arith
differing-le (x ∷ xs) (y ∷ ys) = omega (arith, bit_differs-le x y, differing-le xs ys)

pub differing-append : (xs ys us vs : List Bool) → length xs ≡ length ys → differing (xs ++ us) (ys ++ vs) ≡ differing xs ys + differing us vs
differing-append [] [] us vs e = omega arith
differing-append [] (y ∷ ys) us vs e = absurd (omega arith)
differing-append (x ∷ xs) [] us vs e = absurd (omega arith)
differing-append (x ∷ xs) (y ∷ ys) us vs e = omega (arith, differing-append xs ys us vs (omega arith))

bit_cases : (a : ℕ) → a < 2 → (a ≡ 0) ⊎ (a ≡ 1)
bit_cases a h = grind arith

differs : (a b : ℕ) → a < 2 → b < 2 → bit_differs (nat_eq a 1) (nat_eq b 1) ≡ (a + b) % 2
differs a b p q = elim (bit_cases a p) [
  | inl e ↦ elim (bit_cases b q) [ inl f ↦ rw (e, f) refl | inr f ↦ rw (e, f) refl ]
  | inr e ↦ elim (bit_cases b q) [ inl f ↦ rw (e, f) refl | inr f ↦ rw (e, f) refl ]
]

xor_lowest : (x y : ℕ) → bit_xor x y % 2 ≡ (x % 2 + y % 2) % 2
xor_lowest x y = sym (bit_at_lowest (bit_xor x y)) ∙ bit_at_xor x y 0 ∙ (let a : bit_at x 0 ≡ x % 2 = bit_at_lowest x in let b : bit_at y 0 ≡ y % 2 = bit_at_lowest y in omega (arith, a, b))

xor_half : (x y : ℕ) → bit_xor x y / 2 ≡ bit_xor (x / 2) (y / 2)
xor_half x y = xor_shr x y 1

ones_zero : ones 0 ≡ zero
unfolding ones
ones_zero = refl

pub differing-numbers : (n x y : ℕ) → x < 2 ^ n → y < 2 ^ n → differing (number_bits n x) (number_bits n y) ≡ ones (bit_xor x y)
differing-numbers zero x y p q =
    let a : x ≡ 0 = omega arith in
    let b : y ≡ 0 = omega arith in
    rw (a, b) (sym ones_zero)
differing-numbers (suc n) x y p q =
    let t : differing (number_bits n (x / 2)) (number_bits n (y / 2)) ≡ ones (bit_xor (x / 2) (y / 2)) =
    differing-numbers n (x / 2) (y / 2) (omega (arith, pow-suc 2 n)) (omega (arith, pow-suc 2 n)) in
    let h : bit_differs (nat_eq (x % 2) 1) (nat_eq (y % 2) 1) ≡ bit_xor x y % 2 = differs (x % 2) (y % 2) (omega arith) (omega arith) ∙ sym (xor_lowest x y) in
    let s : ones (bit_xor x y) ≡ bit_xor x y % 2 + ones (bit_xor (x / 2) (y / 2)) = ones_step (bit_xor x y) ∙ ap (λ k. bit_xor x y % 2 + ones k) (xor_half x y) in
    omega (arith, t, h, s)

-- one step of a count: n more bits, which are those of x and y
pub differing-more : (m n i x y : ℕ) (ws vs : List ℕ) → x < 2 ^ n → y < 2 ^ n → ((j : ℕ) → j < n → bit_at x j ≡ word_bit ws (i + m + j)) → ((j : ℕ) → j < n → bit_at y j ≡ word_bit vs (i + m + j))
    → differing (flags m i ws) (flags m i vs) + ones (bit_xor x y) ≡ differing (flags (m + n) i ws) (flags (m + n) i vs)
differing-more m n i x y ws vs p q f g =
    let a : flags n (i + m) ws ≡ number_bits n x = flags-number n (i + m) x ws f in
    let b : flags n (i + m) vs ≡ number_bits n y = flags-number n (i + m) y vs g in
    let d : differing (flags n (i + m) ws) (flags n (i + m) vs) ≡ ones (bit_xor x y) = rw (a, b) (differing-numbers n x y p q) in
    rw (flags-add m n i ws, flags-add m n i vs, differing-append (flags m i ws) (flags m i vs) (flags n (i + m) ws) (flags n (i + m) vs) (length-flags m i ws ∙ sym (length-flags m i vs)), d) refl
