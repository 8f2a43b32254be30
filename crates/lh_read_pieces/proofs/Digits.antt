-- Digits, one after another.
use Rattle.std.proofs.Common.{◌≡◌, ℕ, ◌+◌, ◌-◌, ◌*◌, ◌<◌, ◌≤◌, Bool, true, false, List, [], ◌∷◌, length, get_or, drop, Option, Some, None, nat_lt, refl, arith, drop-cons, add-one}
use Rattle.std.specs.Prelude.{◌^◌, if◌then◌else◌}
use Rattle.std.proofs.lemmas.Grind.{common_steps}
use Rattle.lh_unit.specs.Numerals.{is_digit, digits_from}
use Rattle.lh_read_pieces.specs.Pieces.{small}

-- digits never make a number smaller
grows : (bs : List ℕ) (n m : ℕ) → digits_from n bs ≡ Some m → n ≤ m
grows [] n m p = let e : n ≡ m = cc in omega (arith, e)
grows (b ∷ bs) n m p = by (is_digit b) p (grows bs (n * 10 + (b - 48)) m)
  where
    by : (c : Bool) → (if c then digits_from (n * 10 + (b - 48)) bs else None) ≡ Some m → (digits_from (n * 10 + (b - 48)) bs ≡ Some m → n * 10 + (b - 48) ≤ m) → n ≤ m
    by true q r = omega (arith, r q)
    by false q r = cc

past : (n : ℕ) → 2 ^ 128 ≤ n → nat_lt n (2 ^ 128) ≡ false
past n h = grind (arith, common_steps)

-- past 2 ^ 128 there is no way back
pub small-past : (bs : List ℕ) (n : ℕ) → 2 ^ 128 ≤ n → small (digits_from n bs) ≡ None
small-past bs n h = by (digits_from n bs) refl
  where
    by : (o : Option ℕ) → digits_from n bs ≡ o → small o ≡ None
    by None e = refl
    by (Some m) e = let k : 2 ^ 128 ≤ m = omega (arith, grows bs n m e) in rw (past m k) refl

pub digit_step : (bs : List ℕ) (i n : ℕ) → i < length bs → 48 ≤ get_or bs i 0 → get_or bs i 0 ≤ 57 → digits_from n (drop i bs) ≡ digits_from (n * 10 + (get_or bs i 0 - 48)) (drop (i + 1) bs)
digit_step bs i n h l u = let e : is_digit (get_or bs i 0) ≡ true = grind (arith, common_steps) in rw (add-one, drop-cons bs i 0, e) refl
