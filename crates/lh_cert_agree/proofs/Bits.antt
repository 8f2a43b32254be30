-- Bits of words.
use Rattle.std.proofs.Common.{◌≡◌, ℕ, zero, suc, ◌+◌, ◌-◌, ◌*◌, ◌/◌, ◌%◌, ◌^◌, ◌<◌, ◌≤◌, Bool, true, false, not, ◌&&◌, ◌||◌, nat_eq, if◌then◌else◌, List, [], ◌∷◌, refl, sym, ap, ◌∙◌, arith, min, max, bit_and, bit_or, bit_xor, get_or, inl, inr, w64}
use Rattle.std.specs.Cmp.{first_so, second_so}
use Rattle.std.specs.Int.{bit_at}
use Rattle.std.proofs.lemmas.Nat.Bits.{bit_at-zero, bit_at_and, bit_at_or, bit_at_xor, bit_at_not, bit_at_ones, bit_at-lt, bit_at_above, bit_at_cat_low, bit_at_cat_high, shr_and_one, same_from_bits_below}
use Rattle.lh_edge.specs.Valuations.{differ}
use Rattle.lh_edge.proofs.Numbers.{here_or_before}
use Rattle.lh_cert_agree.specs.Gates.{bit_of_number}

-- ---- numbers below 2 as bits

and_bit : (a b : ℕ) → a < 2 → b < 2 → nat_eq (min a b) 1 ≡ (nat_eq a 1 && nat_eq b 1)
and_bit zero zero h k = refl
and_bit zero (suc zero) h k = refl
and_bit (suc zero) zero h k = refl
and_bit (suc zero) (suc zero) h k = refl
and_bit (suc (suc a)) b h k = absurd (omega arith)
and_bit zero (suc (suc b)) h k = absurd (omega arith)
and_bit (suc zero) (suc (suc b)) h k = absurd (omega arith)

or_bit : (a b : ℕ) → a < 2 → b < 2 → nat_eq (max a b) 1 ≡ (nat_eq a 1 || nat_eq b 1)
or_bit zero zero h k = refl
or_bit zero (suc zero) h k = refl
or_bit (suc zero) zero h k = refl
or_bit (suc zero) (suc zero) h k = refl
or_bit (suc (suc a)) b h k = absurd (omega arith)
or_bit zero (suc (suc b)) h k = absurd (omega arith)
or_bit (suc zero) (suc (suc b)) h k = absurd (omega arith)

xor_bit : (a b : ℕ) → a < 2 → b < 2 → nat_eq ((a + b) % 2) 1 ≡ differ (nat_eq a 1) (nat_eq b 1)
xor_bit zero zero h k = refl
xor_bit zero (suc zero) h k = refl
xor_bit (suc zero) zero h k = refl
xor_bit (suc zero) (suc zero) h k = refl
xor_bit (suc (suc a)) b h k = absurd (omega arith)
xor_bit zero (suc (suc b)) h k = absurd (omega arith)
xor_bit (suc zero) (suc (suc b)) h k = absurd (omega arith)

not_bit : (a : ℕ) → a < 2 → nat_eq (1 - a) 1 ≡ not (nat_eq a 1)
not_bit zero h = refl
not_bit (suc zero) h = refl
not_bit (suc (suc a)) h = absurd (omega arith)

same_bit : (a b : ℕ) → a < 2 → b < 2 → nat_eq a 1 ≡ nat_eq b 1 → a ≡ b
same_bit zero zero h k e = refl
same_bit zero (suc zero) h k e = cc
same_bit (suc zero) zero h k e = cc
same_bit (suc zero) (suc zero) h k e = refl
same_bit (suc (suc a)) b h k e = absurd (omega arith)
same_bit zero (suc (suc b)) h k e = absurd (omega arith)
same_bit (suc zero) (suc (suc b)) h k e = absurd (omega arith)

-- ---- one bit of a word

pub bit_of_and : (a b i : ℕ) → bit_of_number (bit_and a b) i ≡ (bit_of_number a i && bit_of_number b i)
bit_of_and a b i = ap (λ n. nat_eq n 1) (bit_at_and a b i) ∙ and_bit (bit_at a i) (bit_at b i) (bit_at-lt a i) (bit_at-lt b i)

pub bit_of_or : (a b i : ℕ) → bit_of_number (bit_or a b) i ≡ (bit_of_number a i || bit_of_number b i)
bit_of_or a b i = ap (λ n. nat_eq n 1) (bit_at_or a b i) ∙ or_bit (bit_at a i) (bit_at b i) (bit_at-lt a i) (bit_at-lt b i)

pub bit_of_xor : (a b i : ℕ) → bit_of_number (bit_xor a b) i ≡ differ (bit_of_number a i) (bit_of_number b i)
bit_of_xor a b i = ap (λ n. nat_eq n 1) (bit_at_xor a b i) ∙ xor_bit (bit_at a i) (bit_at b i) (bit_at-lt a i) (bit_at-lt b i)

pub bit_of_zero : (i : ℕ) → bit_of_number 0 i ≡ false
bit_of_zero i = ap (λ n. nat_eq n 1) (bit_at-zero i)

pub bit_of_ones : (i : ℕ) → i < 64 → bit_of_number (2 ^ 64 - 1) i ≡ true
bit_of_ones i h = ap (λ n. nat_eq n 1) (bit_at_ones 64 i h)

pub bit_above : (n j : ℕ) → n < 2 ^ 64 → 64 ≤ j → bit_of_number n j ≡ false
bit_above n j h l = ap (λ m. nat_eq m 1) (bit_at_above n 64 j h l)

pub bit_shifted : (n j : ℕ) → nat_eq (bit_and (n / 2 ^ j) 1) 1 ≡ bit_of_number n j
bit_shifted n j = ap (λ m. nat_eq m 1) (shr_and_one n j)

-- the bits of t where those of c are 1, else those of f
pub chosen_bit : (c f t : Bool) → ((c && t) || (not c && f)) ≡ (if c then t else f)
chosen_bit true f true = refl
chosen_bit true f false = refl
chosen_bit false f t = refl

pub bit_of_opposite : (w i : ℕ) → w < 2 ^ 64 → i < 64 → bit_of_number (18446744073709551615 - w) i ≡ not (bit_of_number w i)
bit_of_opposite w i h l = ap (λ n. nat_eq n 1) (bit_at_not w64 w i h l) ∙ not_bit (bit_at w i) (bit_at-lt w i)

-- words with the same bits are one
pub same_words : (a b : ℕ) → a < 2 ^ 64 → b < 2 ^ 64 → ((i : ℕ) → i < 64 → bit_of_number a i ≡ bit_of_number b i) → a ≡ b
same_words a b h k e = same_from_bits_below 64 a b h k (λ i l. same_bit (bit_at a i) (bit_at b i) (bit_at-lt a i) (bit_at-lt b i) (e i l))

-- ---- the bits of the number of a valuation

shifted : (b i : ℕ) → 64 * b + i ≡ b * 2 ^ 6 + i
shifted b i = omega arith

pub low_bit : (b i j : ℕ) → j < 6 → bit_of_number (64 * b + i) j ≡ bit_of_number i j
low_bit b i j l = ap (λ n. bit_of_number n j) (shifted b i) ∙ ap (λ m. nat_eq m 1) (bit_at_cat_low b 6 i j l)

pub high_bit : (b i j : ℕ) → i < 64 → 6 ≤ j → bit_of_number (64 * b + i) j ≡ bit_of_number b (j - 6)
high_bit b i j h l = ap (λ n. bit_of_number n j) (shifted b i) ∙ ap (λ m. nat_eq m 1) (bit_at_cat_high b 6 i j h l)

-- ---- the masks, bit by bit

same : Bool → Bool → Bool
same true b = b
same false b = not b

same_is : (a b : Bool) → same a b ≡ true → a ≡ b
unfolding same
same_is true true e = refl
same_is true false e = cc
same_is false true e = cc
same_is false false e = refl

-- f at each number below n
below_all : (f : ℕ → Bool) → ℕ → Bool
below_all f zero = true
below_all f (suc n) = f n && below_all f n

below_each : (f : ℕ → Bool) (n i : ℕ) → below_all f n ≡ true → i < n → f i ≡ true
unfolding below_all
below_each f zero i h l = absurd (omega arith)
below_each f (suc n) i h l = elim (here_or_before i n (omega arith)) [
  | inl e ↦ ap f e ∙ first_so (f n) (below_all f n) h
  | inr k ↦ below_each f n i (second_so (f n) (below_all f n) h) k
]

-- the mask is bit j of each number below 64
IsMask : ℕ → ℕ → Bool
IsMask j mask = below_all (λ i. same (bit_of_number mask i) (bit_of_number i j)) 64

mask_bit : (j mask i : ℕ) → IsMask j mask ≡ true → i < 64 → bit_of_number mask i ≡ bit_of_number i j
unfolding IsMask
mask_bit j mask i h l = same_is _ _ (below_each (λ i. same (bit_of_number mask i) (bit_of_number i j)) 64 i h l)

masks : List ℕ
masks = 0xAAAA_AAAA_AAAA_AAAA ∷ 0xCCCC_CCCC_CCCC_CCCC ∷ 0xF0F0_F0F0_F0F0_F0F0 ∷ 0xFF00_FF00_FF00_FF00 ∷ 0xFFFF_0000_FFFF_0000 ∷ 0xFFFF_FFFF_0000_0000 ∷ []

are_masks : (j : ℕ) → j < 6 → IsMask j (get_or masks j 0) ≡ true
unfolding IsMask below_all same masks
are_masks zero l = refl
are_masks (suc zero) l = refl
are_masks (suc (suc zero)) l = refl
are_masks (suc (suc (suc zero))) l = refl
are_masks (suc (suc (suc (suc zero)))) l = refl
are_masks (suc (suc (suc (suc (suc zero))))) l = refl
are_masks (suc (suc (suc (suc (suc (suc j)))))) l = absurd (omega arith)

-- a mask has the bits of the numbers of a block
pub mask_bits : (j b i : ℕ) → j < 6 → i < 64 → bit_of_number (get_or (0xAAAA_AAAA_AAAA_AAAA ∷ 0xCCCC_CCCC_CCCC_CCCC ∷ 0xF0F0_F0F0_F0F0_F0F0 ∷ 0xFF00_FF00_FF00_FF00 ∷ 0xFFFF_0000_FFFF_0000 ∷ 0xFFFF_FFFF_0000_0000 ∷ []) j 0) i
    ≡ bit_of_number (64 * b + i) j
unfolding masks
mask_bits j b i l h = mask_bit j (get_or masks j 0) i (are_masks j l) h ∙ sym (low_bit b i j l)
