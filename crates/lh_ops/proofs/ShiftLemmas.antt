-- Words that are put together from parts of words.
use Rattle.std.proofs.Common.{◌≡◌, ℕ, ◌+◌, ◌-◌, ◌*◌, ◌/◌, ◌%◌, ◌^◌, ◌≤◌, ◌<◌, sym, ap, ◌∙◌, subst, arith, bit_or}
use Rattle.std.proofs.lemmas.Nat.{pow_pos, pow-add, mod-pow-add, shl-shr, shl_whole, or_shifted, shr_below, shr_split, mod_below, mul-le}
use Rattle.std.proofs.Math.Nat.{mul-mod_left}
use lib.Pow.{pow_mono}
use Rattle.lh_types.specs.ApplyInt.{moved_up, moved_down}
use Rattle.lh_ops.specs.Operands.{bits_from, bits_replaced}

-- to move up and cut is to cut and move up
pub scaled_mod : (x j k : ℕ) → (x * 2 ^ k) % 2 ^ (j + k) ≡ (x % 2 ^ j) * 2 ^ k
scaled_mod x j k =
    let e = mod-pow-add (x * 2 ^ k) j k in
    let f : x * 2 ^ k / 2 ^ k ≡ x = shl-shr x k in
    let g : x * 2 ^ k % 2 ^ k ≡ 0 = mul-mod_left x (2 ^ k) in
    e ∙ ap (λ y. (y % 2 ^ j) * 2 ^ k + x * 2 ^ k % 2 ^ k) f ∙ omega (arith, g)

-- a high part of j bits and a low part of k bits do not meet
joined : (x y j k : ℕ) → x < 2 ^ j → y < 2 ^ k → j + k ≤ 128 → bit_or (x * 2 ^ k % 2 ^ 128) y ≡ x * 2 ^ k + y
joined x y j k f g h = ap (λ z. bit_or z y) (shl_whole x j k 128 f h) ∙ or_shifted x k y g

pub shifted_up : (w b f k r : ℕ) → w ≤ 128 → f < 2 ^ w → k ≤ w → r ≡ b % 2 ^ (w - k) → bit_or (r * 2 ^ k % 2 ^ 128) (f / 2 ^ (w - k)) ≡ moved_up w b f k
shifted_up w b f k r h g l e =
    let s : w - k + k ≡ w = omega arith in
    let t : k + (w - k) ≡ w = omega arith in
    let high : r < 2 ^ (w - k) = omega (arith, e, mod_below b (2 ^ (w - k)) (pow_pos (w - k))) in
    let low : f / 2 ^ (w - k) < 2 ^ k = shr_below f k (w - k) (rw t g) in
    let m : (b * 2 ^ k) % 2 ^ w ≡ (b % 2 ^ (w - k)) * 2 ^ k = subst (λ v. (b * 2 ^ k) % 2 ^ v ≡ (b % 2 ^ (w - k)) * 2 ^ k) s (scaled_mod b (w - k) k) in
    let n : w - k + k ≤ 128 = omega arith in
    joined r (f / 2 ^ (w - k)) (w - k) k high low n ∙ ap (λ z. z * 2 ^ k + f / 2 ^ (w - k)) e ∙ ap (λ z. z + f / 2 ^ (w - k)) (sym m)

pub shifted_down : (w b f k r : ℕ) → w ≤ 128 → b < 2 ^ w → k ≤ w → r ≡ f % 2 ^ k → bit_or (r * 2 ^ (w - k) % 2 ^ 128) (b / 2 ^ k) ≡ moved_down w b f k
shifted_down w b f k r h g l e =
    let s : w - k + k ≡ w = omega arith in
    let high : r < 2 ^ k = omega (arith, e, mod_below f (2 ^ k) (pow_pos k)) in
    let low : b / 2 ^ k < 2 ^ (w - k) = shr_below b (w - k) k (rw s g) in
    let n : k + (w - k) ≤ 128 = omega arith in
    joined r (b / 2 ^ k) k (w - k) high low n ∙ ap (λ z. z * 2 ^ (w - k) + b / 2 ^ k) e

-- a word as its bits above, from and below bit o
three_parts : (a o n : ℕ) → a / 2 ^ (o + n) * 2 ^ (o + n) + bits_from a o n * 2 ^ o + a % 2 ^ o ≡ a
three_parts a o n =
    let s : n + o ≡ o + n = omega arith in
    let m : a % 2 ^ (o + n) ≡ bits_from a o n * 2 ^ o + a % 2 ^ o = subst (λ v. a % 2 ^ v ≡ bits_from a o n * 2 ^ o + a % 2 ^ o) s (mod-pow-add a n o) in
    omega (arith, m, shr_split a (o + n))

-- the word with its bits from o replaced has no more bits
pub replaced_below : (w a v o n : ℕ) → a < 2 ^ w → v < 2 ^ n → o + n ≤ w → bits_replaced a v o n < 2 ^ w
replaced_below w a v o n f g h =
    let s : w - (o + n) + (o + n) ≡ w = omega arith in
    let high : a / 2 ^ (o + n) < 2 ^ (w - (o + n)) = shr_below a (w - (o + n)) (o + n) (rw s f) in
    let low : a % 2 ^ o < 2 ^ o = mod_below a (2 ^ o) (pow_pos o) in
    let whole : 2 ^ w ≡ 2 ^ (w - (o + n)) * 2 ^ (o + n) = subst (λ k. 2 ^ k ≡ 2 ^ (w - (o + n)) * 2 ^ (o + n)) s (pow-add 2 (w - (o + n)) (o + n)) in
    let top : (a / 2 ^ (o + n) + 1) * 2 ^ (o + n) ≤ 2 ^ (w - (o + n)) * 2 ^ (o + n) = mul-le (a / 2 ^ (o + n) + 1) (2 ^ (o + n)) (2 ^ (w - (o + n))) (2 ^ (o + n)) (omega arith) (omega arith) in
    let part : 2 ^ (o + n) ≡ 2 ^ o * 2 ^ n = pow-add 2 o n in
    let mid : (v + 1) * 2 ^ o ≤ 2 ^ n * 2 ^ o = mul-le (v + 1) (2 ^ o) (2 ^ n) (2 ^ o) (omega arith) (omega arith) in
    add_up (a / 2 ^ (o + n)) (2 ^ (o + n)) v (2 ^ o) (2 ^ n) (a % 2 ^ o) (2 ^ w) (rw whole top) part mid low
  where
    add_up : (hi p v q m lo t : ℕ) → (hi + 1) * p ≤ t → p ≡ q * m → (v + 1) * q ≤ m * q → lo < q → hi * p + v * q + lo < t
    add_up hi p v q m lo t top part mid low = omega (arith, top, part, mid, low)

-- the word with its bits from o replaced, as the code computes it
pub replaced_is : (w a v o n r : ℕ) → w ≤ 128 → a < 2 ^ w → v < 2 ^ n → o + n ≤ w → r ≡ bits_from a o n → a - r * 2 ^ o % 2 ^ 128 + v * 2 ^ o % 2 ^ 128 ≡ bits_replaced a v o n
replaced_is w a v o n r h f g l e =
    let k : n + o ≤ 128 = omega arith in
    let mid : bits_from a o n < 2 ^ n = mod_below (a / 2 ^ o) (2 ^ n) (pow_pos n) in
    let old : r * 2 ^ o % 2 ^ 128 ≡ bits_from a o n * 2 ^ o = rw e (shl_whole (bits_from a o n) n o 128 mid k) in
    let new : v * 2 ^ o % 2 ^ 128 ≡ v * 2 ^ o = shl_whole v n o 128 g k in
    rw (old, new) (omega (arith, three_parts a o n))

pub replaced_fits : (w a v o n r : ℕ) → w ≤ 128 → a < 2 ^ w → v < 2 ^ n → o + n ≤ w → r ≡ bits_from a o n → a - r * 2 ^ o % 2 ^ 128 + v * 2 ^ o % 2 ^ 128 < 2 ^ 128
replaced_fits w a v o n r h f g l e =
    let below : bits_replaced a v o n < 2 ^ w = replaced_below w a v o n f g l in
    let most : 2 ^ w ≤ 2 ^ 128 = pow_mono h in
    omega (arith, replaced_is w a v o n r h f g l e)
