-- A number as it is printed says the number.
use Rattle.std.proofs.Common.{◌≡◌, ℕ, ◌+◌, ◌-◌, ◌*◌, ◌/◌, ◌%◌, ◌^◌, ◌<◌, ◌≤◌, Bool, true, false, ◌&&◌, List, [], ◌∷◌, ◌++◌, length, Some, None, if◌then◌else◌, decimal, refl, ap, ◌∙◌, arith, length-append}
use Rattle.std.proofs.lemmas.Fmt.{decimal_by_steps_wide}
use Rattle.std.proofs.lemmas.Grind.{common_steps}
use Rattle.lh_unit_names.specs.Names.{is_name_byte, all_name_bytes}
use Rattle.lh_unit.specs.Numerals.{is_digit, digits_from, number_of}

append_step : (n m c : ℕ) (a b : List ℕ) (t : Bool) → is_digit c ≡ t → (digits_from (n * 10 + (c - 48)) a ≡ Some m → digits_from (n * 10 + (c - 48)) (a ++ b) ≡ digits_from m b)
    → (if t then digits_from (n * 10 + (c - 48)) a else None) ≡ Some m → digits_from n (c ∷ (a ++ b)) ≡ digits_from m b
append_step n m c a b true d more e = rw d (more e)
append_step n m c a b false d more e = absurd cc

digits_from-append : (n m : ℕ) (a b : List ℕ) → digits_from n a ≡ Some m → digits_from n (a ++ b) ≡ digits_from m b
digits_from-append n m [] b e = let q : n ≡ m = cc in ap (λ k. digits_from k b) q
digits_from-append n m (c ∷ a) b e = append_step n m c a b (is_digit c) refl (digits_from-append (n * 10 + (c - 48)) m a b) e

-- bytes that say a number, each a digit
record IsNumeralOf (n : ℕ) (ds : List ℕ) : Type 0 where
  some : 1 ≤ length ds
  named : all_name_bytes ds ≡ true
  says : digits_from 0 ds ≡ Some n

digit-is : (d : ℕ) → d < 10 → is_digit (48 + d) ≡ true
digit-is d h = grind (arith, common_steps)

digit-named : (d : ℕ) → d < 10 → is_name_byte (48 + d) ≡ true
digit-named d h = grind (arith, common_steps)

named_step : (a b : List ℕ) (t : Bool) → (all_name_bytes a ≡ true → all_name_bytes (a ++ b) ≡ true) → (t && all_name_bytes a) ≡ true → (t && all_name_bytes (a ++ b)) ≡ true
named_step a b true more e = more e
named_step a b false more e = absurd cc

pub all_name_bytes-append : (a b : List ℕ) → all_name_bytes a ≡ true → all_name_bytes b ≡ true → all_name_bytes (a ++ b) ≡ true
all_name_bytes-append [] b h k = k
all_name_bytes-append (c ∷ a) b h k = named_step a b (is_name_byte c) (λ e. all_name_bytes-append a b e k) h

one_digit : (n : ℕ) → n < 10 → digits_from 0 ((48 + n) ∷ []) ≡ Some n
one_digit n h = let v : 0 * 10 + (48 + n - 48) ≡ n = omega arith in rw (digit-is n h) (ap (λ k. Some k) v)

next_digit : (m : ℕ) → digits_from (m / 10) ((48 + m % 10) ∷ []) ≡ Some m
next_digit m = let v : m / 10 * 10 + (48 + m % 10 - 48) ≡ m = omega arith in rw (digit-is (m % 10) (omega arith)) (ap (λ k. Some k) v)

says-first : (n : ℕ) → n < 10 → IsNumeralOf n ((48 + n) ∷ [])
says-first n h = record { some = omega arith; named = rw (digit-named n h) refl; says = one_digit n h }

says-next : (m : ℕ) (ds : List ℕ) → 10 ≤ m → IsNumeralOf (m / 10) ds → IsNumeralOf m (ds ++ (48 + m % 10) ∷ [])
says-next m ds l h =
    record {
      some = omega (arith, length-append ds ((48 + m % 10) ∷ []));
      named = all_name_bytes-append ds ((48 + m % 10) ∷ []) h.named (rw (digit-named (m % 10) (omega arith)) refl);
      says = digits_from-append 0 (m / 10) ds ((48 + m % 10) ∷ []) h.says ∙ next_digit m;
    }

says-decimal : (n : ℕ) → n < 10 ^ 64 → IsNumeralOf n (decimal n)
says-decimal = decimal_by_steps_wide IsNumeralOf says-first says-next

number_of-digits : (ds : List ℕ) → 1 ≤ length ds → number_of ds ≡ digits_from 0 ds
number_of-digits [] h = absurd (omega arith)
number_of-digits (b ∷ bs) h = refl

-- a printed number says the number
pub number_of-decimal : (n : ℕ) → n < 10 ^ 64 → number_of (decimal n) ≡ Some n
number_of-decimal n h = number_of-digits (decimal n) (says-decimal n h).some ∙ (says-decimal n h).says

pub decimal-named : (n : ℕ) → n < 10 ^ 64 → all_name_bytes (decimal n) ≡ true
decimal-named n h = (says-decimal n h).named

pub decimal-some : (n : ℕ) → n < 10 ^ 64 → 1 ≤ length (decimal n)
decimal-some n h = (says-decimal n h).some
