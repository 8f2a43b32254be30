-- Numbers of a few digits.
use Rattle.std.proofs.Common.{◌≡◌, ℕ, ◌+◌, ◌-◌, ◌*◌, ◌^◌, ◌<◌, ◌≤◌, List, ◌∷◌, ap, true, false, cond, None, arith}
use Rattle.std.proofs.lemmas.Bool.Decides.{nat_tests}
use Rattle.std.proofs.Math.Nat.{pow-le-pow_right}
use Rattle.lh_unit.specs.Numerals.{is_digit, digits_from}

pub not_below : (b : ℕ) → b < 48 → is_digit b ≡ false
not_below b h = grind (arith, nat_tests)

pub not_above : (b : ℕ) → 57 < b → is_digit b ≡ false
not_above b h = grind (arith, nat_tests)

pub a_digit : (b : ℕ) → 48 ≤ b → b ≤ 57 → is_digit b ≡ true
a_digit b h k = grind (arith, nat_tests)

pub digits_stop : (n b : ℕ) (bs : List ℕ) → is_digit b ≡ false → digits_from n (b ∷ bs) ≡ None
digits_stop n b bs h = ap (λ t. cond t (digits_from (n * 10 + (b - 48)) bs) None) h

pub digits_go : (n b : ℕ) (bs : List ℕ) → is_digit b ≡ true → digits_from n (b ∷ bs) ≡ digits_from (n * 10 + (b - 48)) bs
digits_go n b bs h = ap (λ t. cond t (digits_from (n * 10 + (b - 48)) bs) None) h

pub few_digits : (n i d : ℕ) → n < 10 ^ i → i < 7 → d ≤ 9 → n * 10 + d < 4294967296
few_digits n i d h k l =
    let ten : 0 < 10 = omega arith in
    let most : i ≤ 6 = omega arith in
    let le : 10 ^ i ≤ 10 ^ 6 = pow-le-pow_right ten most in
    let small : 10 ^ i ≤ 1000000 = le in
    omega arith
