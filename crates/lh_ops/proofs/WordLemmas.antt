-- Numbers modulo a power of two that divides 2 ^ 128.
use Rattle.std.proofs.Common.{◌≡◌, ℕ, ◌+◌, ◌-◌, ◌*◌, ◌/◌, ◌%◌, ◌^◌, ◌≤◌, ◌<◌, refl, ap, ◌∙◌, subst, arith, bit_and, zero, suc, ℤ, pos, neg_ℤ, ◌+ℤ◌, ◌-ℤ◌, unsigned_abs}
use Rattle.lh_types.specs.ApplyInt.{wrapped}
use Rattle.std.proofs.lemmas.Int.{ints, int_rem_euclid_is}
use Rattle.std.proofs.lemmas.Nat.{and_mask, pow_pos, pow-add}
use Rattle.std.proofs.lemmas.Nat.Bits.{ones_shr}
use Rattle.std.proofs.Math.Nat.{add-mul-mod_self_right}
use lib.Pow.{mod-mod-pow}

-- the ones of a width, as all ones moved down
pub ones_of : (w : ℕ) → w ≤ 128 → 340282366920938463463374607431768211455 / 2 ^ (128 - w) ≡ 2 ^ w - 1
ones_of w h = let e : 128 - (128 - w) ≡ w = omega arith in ones_shr 128 (128 - w) (omega arith) ∙ ap (λ k. 2 ^ k - 1) e

-- the low bits, as a mask leaves them
pub masked : (w x m : ℕ) → m ≡ 2 ^ w - 1 → bit_and x m ≡ x % 2 ^ w
masked w x m e = rw e (and_mask x w)

-- a word of 128 bits keeps what is left modulo 2 ^ w
pub mod_word : (w x : ℕ) → w ≤ 128 → x % 2 ^ 128 % 2 ^ w ≡ x % 2 ^ w
mod_word w x h = let e : 128 - w + w ≡ 128 = omega arith in subst (λ k. x % 2 ^ k % 2 ^ w ≡ x % 2 ^ w) e (mod-mod-pow x (128 - w) w)

-- a product with a positive factor is the other factor and some more of it
one_and_more : (a b c : ℕ) → 0 < a → c ≡ a * b → (k : ℕ) × (c ≡ b + k * b)
one_and_more zero b c h e = absurd (omega arith)
one_and_more (suc a) b c h e = (a, omega (arith, e))

whole_words : (w : ℕ) → w ≤ 128 → (k : ℕ) × (2 ^ 128 ≡ 2 ^ w + k * 2 ^ w)
whole_words w h =
    let e : 128 - w + w ≡ 128 = omega arith in
    let q : 2 ^ 128 ≡ 2 ^ (128 - w) * 2 ^ w = subst (λ k. 2 ^ k ≡ 2 ^ (128 - w) * 2 ^ w) e (pow-add 2 (128 - w) w) in
    one_and_more (2 ^ (128 - w)) (2 ^ w) (2 ^ 128) (pow_pos (128 - w)) q

-- a difference that wraps, modulo a part of the modulus
wraps_down : (p c k a b : ℕ) → c ≡ p + k * p → b < p → (a + (c - b)) % p ≡ (a + (p - b)) % p
wraps_down p c k a b e h = let f : a + (c - b) ≡ (a + (p - b)) + k * p = omega (arith, e) in rw f (add-mul-mod_self_right (a + (p - b)) k p)

pub difference_word : (w a b : ℕ) → w ≤ 128 → b < 2 ^ w → (a + (2 ^ 128 - b)) % 2 ^ 128 % 2 ^ w ≡ (a + (2 ^ w - b)) % 2 ^ w
difference_word w a b h l = let k = whole_words w h in mod_word w (a + (2 ^ 128 - b)) h ∙ wraps_down (2 ^ w) (2 ^ 128) k.0 a b k.1 l

-- a whole number that is m less some times 2 ^ n
pub wrapped_from : (n m k : ℕ) (z : ℤ) → z +ℤ pos (k * 2 ^ n) ≡ pos m → wrapped n z ≡ m % 2 ^ n
wrapped_from n m k z e = ap unsigned_abs (int_rem_euclid_is z (pos (2 ^ n)) (2 ^ n) k m (pow_pos n) refl e)

-- the same for a whole number that is none below zero
pub wrapped_pos : (n m : ℕ) → wrapped n (pos m) ≡ m % 2 ^ n
wrapped_pos n m = refl

pub wrapped_neg : (n m : ℕ) → m ≤ 2 ^ n → wrapped n (neg_ℤ (pos m)) ≡ (0 + (2 ^ n - m)) % 2 ^ n
wrapped_neg n m h = wrapped_from n (0 + (2 ^ n - m)) 1 (neg_ℤ (pos m)) (lifts (2 ^ n) m h)
  where
    lifts : (p m : ℕ) → m ≤ p → neg_ℤ (pos m) +ℤ pos (1 * p) ≡ pos (0 + (p - m))
    lifts p m h = omega (arith, ints)

pub wrapped_minus : (n a b : ℕ) → b ≤ 2 ^ n → wrapped n (pos a -ℤ pos b) ≡ (a + (2 ^ n - b)) % 2 ^ n
wrapped_minus n a b h = wrapped_from n (a + (2 ^ n - b)) 1 (pos a -ℤ pos b) (lifts (2 ^ n) a b h)
  where
    lifts : (p a b : ℕ) → b ≤ p → (pos a -ℤ pos b) +ℤ pos (1 * p) ≡ pos (a + (p - b))
    lifts p a b h = omega (arith, ints)
