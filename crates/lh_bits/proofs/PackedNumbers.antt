-- A number of up to 128 bits in words: its halves, and the bits that a list of bits has for it.
use Rattle.std.proofs.Common.{◌≡◌, ℕ, ◌+◌, ◌-◌, ◌*◌, ◌/◌, ◌%◌, ◌^◌, ◌<◌, ◌≤◌, inl, inr, List, ap, sym, ◌∙◌, arith}
use Rattle.std.specs.Int.{bit_at}
use Rattle.std.specs.Int.RustNames.{bit_or, bit_and}
use Rattle.std.proofs.Math.Nat.{pow-le-pow_right, div-eq_of_lt}
use Rattle.std.proofs.lemmas.Nat.{or_shifted, pow-add, shl_whole}
use Rattle.std.proofs.lemmas.Nat.Bits.{bit_at_cat_low, bit_at_cat_high}
use Rattle.std.proofs.lemmas.Bool.{cases_lt}
use Rattle.lh_bits.specs.Flags.{word_bit, flags}
use Rattle.lh_types.specs.Bits.{bits_number}
use Rattle.lh_bits.proofs.NumberBits.{bits_number-number_bits}
use Rattle.lh_bits.proofs.FlagRuns.{flags-number}
use Rattle.lh_bits.proofs.WordBits.{and_ones_bit, shr_bit}

-- the number that has the bits of a run
pub run_number : (w at x : ℕ) (ws : List ℕ) → x < 2 ^ w → ((j : ℕ) → j < w → bit_at x j ≡ word_bit ws (at + j)) → x ≡ bits_number (flags w at ws)
run_number w at x ws h f = sym (ap bits_number (flags-number w at x ws f) ∙ bits_number-number_bits w x h)

-- `high << 64 | low`
pub halves-lt : (w h l : ℕ) → 64 ≤ w → h < 2 ^ (w - 64) → l < 2 ^ 64 → h * 2 ^ 64 + l < 2 ^ w
halves-lt w h l p q r =
    let e : w ≡ w - 64 + 64 = omega arith in
    let s : 2 ^ w ≡ 2 ^ (w - 64) * 2 ^ 64 = ap (λ k. 2 ^ k) e ∙ pow-add 2 (w - 64) 64 in
    omega (arith, s)

pub halves_bit : (w at h l j : ℕ) (ws : List ℕ) → l < 2 ^ 64 → ((i : ℕ) → i < 64 → bit_at l i ≡ word_bit ws (at + i)) → ((i : ℕ) → i < w - 64 → bit_at h i ≡ word_bit ws (at + 64 + i)) → j < w
    → bit_at (h * 2 ^ 64 + l) j ≡ word_bit ws (at + j)
halves_bit w at h l j ws r f g b = elim (cases_lt j 64) [
  | inl p ↦ bit_at_cat_low h 64 l j p ∙ f j p
  | inr p ↦
      let e : at + 64 + (j - 64) ≡ at + j = omega arith in
      bit_at_cat_high h 64 l j r p ∙ g (j - 64) (omega arith) ∙ ap (λ i. word_bit ws i) e
]

-- `number >> done & ones`
pub shifted_bit : (x d n j : ℕ) → j < n → bit_at (bit_and (x / 2 ^ d) (2 ^ n - 1)) j ≡ bit_at x (d + j)
shifted_bit x d n j h = and_ones_bit (x / 2 ^ d) n j h ∙ shr_bit x d j

pub halves : (h l : ℕ) → h < 2 ^ 64 → l < 2 ^ 64 → bit_or (h * 2 ^ 64 % 2 ^ 128) l ≡ h * 2 ^ 64 + l
halves h l p q = ap (λ k. bit_or k l) (shl_whole h 64 64 128 p (omega arith)) ∙ or_shifted h 64 l q

-- a shift past the highest bit
pub none_above : (n k : ℕ) → n < 2 ^ 128 → 128 ≤ k → n / 2 ^ k ≡ 0
none_above n k h l =
    let two : 0 < 2 = omega arith in
    let p : 2 ^ 128 ≤ 2 ^ k = pow-le-pow_right two l in
    div-eq_of_lt (omega (arith, p, h))
