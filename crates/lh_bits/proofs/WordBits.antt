-- One bit of a number after a shift, a remainder or a mask, and one bit of words after a read or a write of a word.
use Rattle.std.proofs.Common.{◌≡◌, ℕ, ◌+◌, ◌-◌, ◌*◌, ◌/◌, ◌%◌, ◌^◌, ◌<◌, ◌≤◌, ◌≢◌, ◌⊎◌, inl, inr, min, max, List, length, get_or, set, refl, ap, sym, ◌∙◌, arith, get_or-set_same, get_or-set_other}
use Rattle.std.specs.Int.{bit_at, w64}
use Rattle.std.specs.Int.RustNames.{bit_and, bit_or}
use Rattle.std.proofs.lemmas.Nat.{and_mask, shr-shr, shl_whole, pow_pos}
use Rattle.std.proofs.lemmas.Nat.Bits.{bit_at_and, bit_at_or, bit_at_ones, bit_at_ones_above, bit_at_not, bit_at_cat_low, bit_at_cat_high, bit_at-lt, bit_at_above, bit_at-zero}
use Rattle.std.proofs.lemmas.Bool.{cases_lt}
use Rattle.lh_bits.specs.Flags.{word_bit}

-- the bits of `x & (2 ^ n - 1)`, and of `x % 2 ^ n`
pub and_ones_bit : (x n j : ℕ) → j < n → bit_at (bit_and x (2 ^ n - 1)) j ≡ bit_at x j
and_ones_bit x n j h =
    let o : bit_at (2 ^ n - 1) j ≡ 1 = bit_at_ones n j h in
    bit_at_and x (2 ^ n - 1) j ∙ omega (arith, o, bit_at-lt x j)

pub mod_bit : (x n j : ℕ) → j < n → bit_at (x % 2 ^ n) j ≡ bit_at x j
mod_bit x n j h = ap (λ k. bit_at k j) (sym (and_mask x n)) ∙ and_ones_bit x n j h

-- the bits of `x >> s` and `x << s`
pub shr_bit : (x s j : ℕ) → bit_at (x / 2 ^ s) j ≡ bit_at x (s + j)
shr_bit x s j = ap (λ k. k % 2) (shr-shr x s j)

pub shl_bit_low : (x s j : ℕ) → j < s → bit_at (x * 2 ^ s) j ≡ 0
shl_bit_low x s j h =
    let e : x * 2 ^ s ≡ x * 2 ^ s + 0 = omega arith in
    ap (λ k. bit_at k j) e ∙ bit_at_cat_low x s 0 j h ∙ bit_at-zero j

pub shl_bit_high : (x s j : ℕ) → s ≤ j → bit_at (x * 2 ^ s) j ≡ bit_at x (j - s)
shl_bit_high x s j h =
    let e : x * 2 ^ s ≡ x * 2 ^ s + 0 = omega arith in
    ap (λ k. bit_at k j) e ∙ bit_at_cat_high x s 0 j (pow_pos s) h

-- a bit of the words, in the word that has it
pub bit_in_word : (ws : List ℕ) (k s i : ℕ) → i ≡ 64 * k + s → s < 64 → word_bit ws i ≡ bit_at (get_or ws k 0) s
unfolding word_bit
bit_in_word ws k s i e h =
    let q : i / 64 ≡ k = omega arith in
    let r : i % 64 ≡ s = omega arith in
    rw (q, r) refl

-- a bit after a write of word k
pub bit_elsewhere : (ws : List ℕ) (k v i : ℕ) → i / 64 ≢ k → word_bit (set ws k v) i ≡ word_bit ws i
unfolding word_bit
bit_elsewhere ws k v i h = ap (λ x. bit_at x (i % 64)) (get_or-set_other ws k (i / 64) v 0 h)

pub bit_there : (ws : List ℕ) (k v s i : ℕ) → i ≡ 64 * k + s → s < 64 → k < length ws → word_bit (set ws k v) i ≡ bit_at v s
bit_there ws k v s i e h l = bit_in_word (set ws k v) k s i e h ∙ ap (λ x. bit_at x s) (get_or-set_same ws k v 0 l)

-- `(w & !(ones << s)) | (x << s)`, with n ones
abbrev pub put_word : ℕ → ℕ → ℕ → ℕ → ℕ
put_word w s n x = bit_or (bit_and w (2 ^ 64 - 1 - (2 ^ n - 1) * 2 ^ s % 2 ^ 64)) (x * 2 ^ s % 2 ^ 64)

-- its bit i, from that of the ones and that of x << s
put_word_bit : (w s n x i : ℕ) → s + n ≤ 64 → x < 2 ^ n → i < 64 → bit_at (put_word w s n x) i ≡ max (min (bit_at w i) (1 - bit_at ((2 ^ n - 1) * 2 ^ s) i)) (bit_at (x * 2 ^ s) i)
put_word_bit w s n x i h l b =
    let o : 2 ^ n - 1 < 2 ^ n = omega (arith, pow_pos n) in
    let t : n + s ≤ 64 = omega arith in
    let m : (2 ^ n - 1) * 2 ^ s % 2 ^ 64 ≡ (2 ^ n - 1) * 2 ^ s = shl_whole (2 ^ n - 1) n s 64 o t in
    let y : x * 2 ^ s % 2 ^ 64 ≡ x * 2 ^ s = shl_whole x n s 64 l t in
    let f : (2 ^ n - 1) * 2 ^ s % 2 ^ 64 < 2 ^ 64 = omega arith in
    let not : bit_at (2 ^ 64 - 1 - (2 ^ n - 1) * 2 ^ s % 2 ^ 64) i ≡ 1 - bit_at ((2 ^ n - 1) * 2 ^ s % 2 ^ 64) i = bit_at_not w64 ((2 ^ n - 1) * 2 ^ s % 2 ^ 64) i f b in
    bit_at_or _ (x * 2 ^ s % 2 ^ 64) i
    ∙ ap (λ k. max k (bit_at (x * 2 ^ s % 2 ^ 64) i)) (bit_at_and w _ i)
    ∙ ap (λ k. max (min (bit_at w i) k) (bit_at (x * 2 ^ s % 2 ^ 64) i)) not
    ∙ ap (λ k. max (min (bit_at w i) (1 - bit_at k i)) (bit_at (x * 2 ^ s % 2 ^ 64) i)) m
    ∙ ap (λ k. max (min (bit_at w i) (1 - bit_at ((2 ^ n - 1) * 2 ^ s) i)) (bit_at k i)) y

pub put_word_inside : (w s n x j : ℕ) → s + n ≤ 64 → x < 2 ^ n → j < n → bit_at (put_word w s n x) (s + j) ≡ bit_at x j
put_word_inside w s n x j h l b =
    let i : s + j < 64 = omega arith in
    let d : s + j - s ≡ j = omega arith in
    let o : bit_at ((2 ^ n - 1) * 2 ^ s) (s + j) ≡ 1 = shl_bit_high (2 ^ n - 1) s (s + j) (omega arith) ∙ ap (λ k. bit_at (2 ^ n - 1) k) d ∙ bit_at_ones n j b in
    let y : bit_at (x * 2 ^ s) (s + j) ≡ bit_at x j = shl_bit_high x s (s + j) (omega arith) ∙ ap (λ k. bit_at x k) d in
    put_word_bit w s n x (s + j) h l i ∙ omega (arith, o, y)

pub put_word_outside : (w s n x i : ℕ) → s + n ≤ 64 → x < 2 ^ n → i < 64 → (i < s) ⊎ (s + n ≤ i) → bit_at (put_word w s n x) i ≡ bit_at w i
put_word_outside w s n x i h l b (inl p) =
    let o : bit_at ((2 ^ n - 1) * 2 ^ s) i ≡ 0 = shl_bit_low (2 ^ n - 1) s i p in
    let y : bit_at (x * 2 ^ s) i ≡ 0 = shl_bit_low x s i p in
    put_word_bit w s n x i h l b ∙ omega (arith, o, y, bit_at-lt w i)
put_word_outside w s n x i h l b (inr p) =
    let d : n ≤ i - s = omega arith in
    let o : bit_at ((2 ^ n - 1) * 2 ^ s) i ≡ 0 = shl_bit_high (2 ^ n - 1) s i (omega arith) ∙ bit_at_ones_above n (i - s) d in
    let y : bit_at (x * 2 ^ s) i ≡ 0 = shl_bit_high x s i (omega arith) ∙ bit_at_above x n (i - s) l d in
    put_word_bit w s n x i h l b ∙ omega (arith, o, y, bit_at-lt w i)

-- the words after a write of n bits at bit `at`
abbrev pub put_words : List ℕ → ℕ → ℕ → ℕ → List ℕ
put_words ws at n x = set ws (at / 64) (put_word (get_or ws (at / 64) 0) (at % 64) n x)

pub put_inside : (ws : List ℕ) (at n x j : ℕ) → at % 64 + n ≤ 64 → at + n ≤ 64 * length ws → x < 2 ^ n → j < n → word_bit (put_words ws at n x) (at + j) ≡ bit_at x j
put_inside ws at n x j h w l b =
    bit_there ws (at / 64) (put_word (get_or ws (at / 64) 0) (at % 64) n x) (at % 64 + j) (at + j) (omega arith) (omega arith) (omega arith)
    ∙ put_word_inside (get_or ws (at / 64) 0) (at % 64) n x j h l b

put_same_word : (ws : List ℕ) (at n x i : ℕ) → at % 64 + n ≤ 64 → at + n ≤ 64 * length ws → 0 < n → x < 2 ^ n → (i < at) ⊎ (at + n ≤ i) → i / 64 ≡ at / 64
    → word_bit (put_words ws at n x) i ≡ word_bit ws i
put_same_word ws at n x i h w p l o e =
    let side : (i % 64 < at % 64) ⊎ (at % 64 + n ≤ i % 64) = grind arith in
    bit_there ws (at / 64) (put_word (get_or ws (at / 64) 0) (at % 64) n x) (i % 64) i (omega arith) (omega arith) (omega arith)
    ∙ put_word_outside (get_or ws (at / 64) 0) (at % 64) n x (i % 64) h l (omega arith) side
    ∙ sym (bit_in_word ws (at / 64) (i % 64) i (omega arith) (omega arith))

same_or_not : (a b : ℕ) → (a ≡ b) ⊎ (a ≢ b)
same_or_not a b = grind arith

pub put_outside : (ws : List ℕ) (at n x i : ℕ) → at % 64 + n ≤ 64 → at + n ≤ 64 * length ws → 0 < n → x < 2 ^ n → (i < at) ⊎ (at + n ≤ i) → word_bit (put_words ws at n x) i ≡ word_bit ws i
put_outside ws at n x i h w p l o = elim (same_or_not (i / 64) (at / 64)) [
  | inl e ↦ put_same_word ws at n x i h w p l o e
  | inr e ↦ bit_elsewhere ws (at / 64) (put_word (get_or ws (at / 64) 0) (at % 64) n x) i e
]

-- `x >> s`, where the n bits lie in one word
pub read_one : (ws : List ℕ) (at n j : ℕ) → at % 64 + n ≤ 64 → j < n → bit_at (get_or ws (at / 64) 0 / 2 ^ (at % 64)) j ≡ word_bit ws (at + j)
read_one ws at n j h b =
    shr_bit (get_or ws (at / 64) 0) (at % 64) j
    ∙ sym (bit_in_word ws (at / 64) (at % 64 + j) (at + j) (omega arith) (omega arith))

-- `x >> s | y << (64 - s)`
abbrev pub two_words : ℕ → ℕ → ℕ → ℕ
two_words x y s = bit_or (x / 2 ^ s) (y * 2 ^ (64 - s) % 2 ^ 64)

two_low : (x y s j : ℕ) → s + j < 64 → bit_at (two_words x y s) j ≡ bit_at x (s + j)
two_low x y s j h =
    let z : bit_at (y * 2 ^ (64 - s) % 2 ^ 64) j ≡ 0 = mod_bit (y * 2 ^ (64 - s)) 64 j (omega arith) ∙ shl_bit_low y (64 - s) j (omega arith) in
    bit_at_or (x / 2 ^ s) (y * 2 ^ (64 - s) % 2 ^ 64) j ∙ omega (arith, z, shr_bit x s j)

two_high : (x y s j k : ℕ) → x < 2 ^ 64 → s + j ≡ 64 + k → s < 64 → j < 64 → bit_at (two_words x y s) j ≡ bit_at y k
two_high x y s j k l e h b =
    let d : j - (64 - s) ≡ k = omega arith in
    let z : bit_at (y * 2 ^ (64 - s) % 2 ^ 64) j ≡ bit_at y k = mod_bit (y * 2 ^ (64 - s)) 64 j b ∙ shl_bit_high y (64 - s) j (omega arith) ∙ ap (λ i. bit_at y i) d in
    let o : bit_at x (s + j) ≡ 0 = bit_at_above x 64 (s + j) l (omega arith) in
    bit_at_or (x / 2 ^ s) (y * 2 ^ (64 - s) % 2 ^ 64) j ∙ omega (arith, z, o, shr_bit x s j)

pub read_two : (ws : List ℕ) (at j : ℕ) → get_or ws (at / 64) 0 < 2 ^ 64 → j < 64 → bit_at (two_words (get_or ws (at / 64) 0) (get_or ws (at / 64 + 1) 0) (at % 64)) j ≡ word_bit ws (at + j)
read_two ws at j l b = elim (cases_lt (at % 64 + j) 64) [
  | inl p ↦ two_low (get_or ws (at / 64) 0) (get_or ws (at / 64 + 1) 0) (at % 64) j p
      ∙ sym (bit_in_word ws (at / 64) (at % 64 + j) (at + j) (omega arith) p)
  | inr p ↦ two_high (get_or ws (at / 64) 0) (get_or ws (at / 64 + 1) 0) (at % 64) j (at % 64 + j - 64) l (omega arith) (omega arith) b
      ∙ sym (bit_in_word ws (at / 64 + 1) (at % 64 + j - 64) (at + j) (omega arith) (omega arith))
]
