-- The bits of a number, and the number of bits.
use Rattle.std.proofs.Common.{◌≡◌, ℕ, ◌+◌, ◌*◌, ◌/◌, ◌%◌, ◌^◌, ◌<◌, zero, suc, Bool, true, false, nat_eq, List, [], ◌∷◌, ◌++◌, length, refl, ap, sym, ◌∙◌, subst, arith}
use Rattle.std.proofs.Math.Nat.{pow-suc}
use Rattle.std.proofs.lemmas.Nat.{shr-shr, mod-pow-add}
use Rattle.std.proofs.lemmas.Bool.Decides.{nat_tests}
use Rattle.lh_types.specs.Bits.{number_bits, bits_number}

-- w bits are w bits
pub length-number_bits : (w n : ℕ) → length (number_bits w n) ≡ w
length-number_bits zero n = refl
length-number_bits (suc w) n = ap suc (length-number_bits w (n / 2))

odd_or_even : (b : Bool) (n : ℕ) (bs : List Bool) → b ≡ nat_eq (n % 2) 1 → bits_number bs ≡ n / 2 → bits_number (b ∷ bs) ≡ n
odd_or_even true n bs e h = let o : n % 2 ≡ 1 = grind (arith, nat_tests) in omega (arith, h, o)
odd_or_even false n bs e h = let o : n % 2 ≡ 0 = grind (arith, nat_tests) in omega (arith, h, o)

half_below : (w n : ℕ) → n < 2 ^ suc w → n / 2 < 2 ^ w
half_below w n h = omega (arith, pow-suc 2 w)

-- the number of the bits of a number that fits is the number
pub bits_number-number_bits : (w n : ℕ) → n < 2 ^ w → bits_number (number_bits w n) ≡ n
bits_number-number_bits zero n h = omega arith
bits_number-number_bits (suc w) n h = odd_or_even _ n (number_bits w (n / 2)) refl (bits_number-number_bits w (n / 2) (half_below w n h))

-- the bits of the number of some bits are these bits
pub number_bits-bits_number : (bs : List Bool) → number_bits (length bs) (bits_number bs) ≡ bs
number_bits-bits_number [] = refl
number_bits-bits_number (true ∷ bs) =
    let half : (2 * bits_number bs + 1) / 2 ≡ bits_number bs = omega arith in
    let odd : nat_eq ((2 * bits_number bs + 1) % 2) 1 ≡ true = let o : (2 * bits_number bs + 1) % 2 ≡ 1 = omega arith in rw o refl in
    rw (odd, half) (ap (λ xs. true ∷ xs) (number_bits-bits_number bs))
number_bits-bits_number (false ∷ bs) =
    let half : 2 * bits_number bs / 2 ≡ bits_number bs = omega arith in
    let even : nat_eq (2 * bits_number bs % 2) 1 ≡ false = let o : 2 * bits_number bs % 2 ≡ 0 = omega arith in rw o refl in
    rw (even, half) (ap (λ xs. false ∷ xs) (number_bits-bits_number bs))

-- a number of this many bits fits
pub bits_number-lt : (bs : List Bool) → bits_number bs < 2 ^ length bs
bits_number-lt [] = omega arith
bits_number-lt (true ∷ bs) = omega (arith, bits_number-lt bs, pow-suc 2 (length bs))
bits_number-lt (false ∷ bs) = omega (arith, bits_number-lt bs, pow-suc 2 (length bs))

-- the lower bits, then the higher ones
pub number_bits-add : (v w n : ℕ) → number_bits (v + w) n ≡ number_bits v n ++ number_bits w (n / 2 ^ v)
number_bits-add zero w n = let e : 0 + w ≡ w = omega arith in let f : n / 2 ^ 0 ≡ n = omega arith in rw (e, f) refl
number_bits-add (suc v) w n =
    let e : suc v + w ≡ suc (v + w) = omega arith in
    let two : 2 ^ 1 ≡ 2 = refl in
    let f : n / 2 / 2 ^ v ≡ n / 2 ^ suc v = ap (λ k. n / k / 2 ^ v) (sym two) ∙ shr-shr n 1 v ∙ ap (λ k. n / 2 ^ k) (let s : 1 + v ≡ suc v = omega arith in s) in
    rw e (ap (λ xs. nat_eq (n % 2) 1 ∷ xs) (number_bits-add v w (n / 2) ∙ ap (λ k. number_bits v (n / 2) ++ number_bits w k) f))

-- only the lowest w bits of a number are among its w bits
pub number_bits-mod : (w m n : ℕ) → m % 2 ^ w ≡ n % 2 ^ w → number_bits w m ≡ number_bits w n
number_bits-mod zero m n h = refl
number_bits-mod (suc w) m n h =
    let s : suc w ≡ w + 1 = omega arith in
    let hm : m % 2 ^ (w + 1) ≡ n % 2 ^ (w + 1) = subst (λ k. m % 2 ^ k ≡ n % 2 ^ k) s h in
    let am : m % 2 ^ (w + 1) ≡ (m / 2 % 2 ^ w) * 2 + m % 2 = mod-pow-add m w 1 in
    let an : n % 2 ^ (w + 1) ≡ (n / 2 % 2 ^ w) * 2 + n % 2 = mod-pow-add n w 1 in
    let low : m % 2 ≡ n % 2 = omega (arith, hm, am, an) in
    let high : m / 2 % 2 ^ w ≡ n / 2 % 2 ^ w = omega (arith, hm, am, an, low) in
    rw low (ap (λ xs. nat_eq (n % 2) 1 ∷ xs) (number_bits-mod w (m / 2) (n / 2) high))
