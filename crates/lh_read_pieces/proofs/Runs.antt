-- Runs of digits, and the last byte of a word.
use Rattle.std.proofs.Common.{◌≡◌, ◌≢◌, ℕ, ◌+◌, ◌-◌, ◌*◌, ◌<◌, ◌≤◌, zero, suc, Bool, true, false, List, [], ◌∷◌, length, get_or, take, drop, Option, Some, None, nat_eq, nat_lt, refl, ap, ◌∙◌, arith, drop-cons}
use Rattle.std.specs.Prelude.{◌^◌, if◌then◌else◌, option_map}
use Rattle.std.proofs.lemmas.Grind.{common_steps}
use Rattle.lh_unit.specs.Numerals.{is_digit}
use Rattle.lh_read_pieces.specs.Pieces.{◌>>=◌, below}
use Rattle.lh_read_pieces.specs.Times.{digit_run, all_zero, next_digit, shifted, before_last}

pub run-stop : (bs : List ℕ) (i : ℕ) → i < length bs → is_digit (get_or bs i 0) ≡ false → digit_run (drop i bs) ≡ 0
run-stop bs i h e = rw (drop-cons bs i 0, e) refl

pub run-step : (bs : List ℕ) (i : ℕ) → i < length bs → is_digit (get_or bs i 0) ≡ true → digit_run (drop i bs) ≡ digit_run (drop (i + 1) bs) + 1
run-step bs i h e =
    let j : suc i ≡ i + 1 = omega arith in
    let q : digit_run (drop i bs) ≡ digit_run (drop (suc i) bs) + 1 = rw (drop-cons bs i 0, e) refl in
    q ∙ ap (λ k. digit_run (drop k bs) + 1) j

pub zeros-stop : (bs : List ℕ) (i : ℕ) → i < length bs → get_or bs i 0 ≢ 48 → all_zero (drop i bs) ≡ false
zeros-stop bs i h n = let e : nat_eq (get_or bs i 0) 48 ≡ false = grind (arith, common_steps) in rw (drop-cons bs i 0, e) refl

before_last-at : (c : ℕ) (w : List ℕ) (n : ℕ) → length w ≡ suc n → before_last c w ≡ (if nat_eq (get_or w n 0) c then Some (take n w) else None)
before_last-at c [] n h = absurd (omega (arith, h))
before_last-at c (b ∷ []) zero h = refl
before_last-at c (b ∷ []) (suc n) h = absurd (omega (arith, h))
before_last-at c (b ∷ d ∷ bs) zero h = absurd (omega (arith, h))
before_last-at c (b ∷ d ∷ bs) (suc n) h =
    let l : length (d ∷ bs) ≡ suc n = omega (arith, h) in
    ap (option_map (λ x. b ∷ x)) (before_last-at c (d ∷ bs) n l) ∙ by (nat_eq (get_or (d ∷ bs) n 0) c)
  where
    by : (t : Bool) → option_map (λ x. b ∷ x) (if t then Some (take n (d ∷ bs)) else None) ≡ (if t then Some (b ∷ take n (d ∷ bs)) else None)
    by true = refl
    by false = refl

pub before_last-none : (c : ℕ) (w : List ℕ) → length w ≡ 0 → before_last c w ≡ None
before_last-none c [] h = refl
before_last-none c (b ∷ bs) h = absurd (omega (arith, h))

pub before_last-other : (c : ℕ) (w : List ℕ) → length w ≢ 0 → get_or w (length w - 1) 0 ≢ c → before_last c w ≡ None
before_last-other c w h n =
    let l : length w ≡ suc (length w - 1) = omega (arith, h) in
    let e : nat_eq (get_or w (length w - 1) 0) c ≡ false = grind (arith, common_steps) in
    before_last-at c w (length w - 1) l ∙ (rw e refl)

pub before_last-same : (c : ℕ) (w : List ℕ) → length w ≢ 0 → get_or w (length w - 1) 0 ≡ c → before_last c w ≡ Some (take (length w - 1) w)
before_last-same c w h n =
    let l : length w ≡ suc (length w - 1) = omega (arith, h) in
    let e : nat_eq (get_or w (length w - 1) 0) c ≡ true = grind (arith, common_steps) in
    before_last-at c w (length w - 1) l ∙ (rw e refl)

-- digits behind the point
pub shifted-one : (n k : ℕ) (bs : List ℕ) → 0 < k → shifted n k bs ≡ (next_digit bs >>= λ d. shifted (n * 10 + d.0) (k - 1) d.1)
shifted-one n zero bs h = absurd (omega arith)
shifted-one n (suc k) bs h = let e : suc k - 1 ≡ k = omega arith in rw e refl

pub shifted-grows : (k n : ℕ) (bs : List ℕ) (m : ℕ) → shifted n k bs ≡ Some m → n ≤ m
shifted-grows zero n bs m p = by (all_zero bs) p
  where
    by : (t : Bool) → (if t then Some n else None) ≡ Some m → n ≤ m
    by true q = let e : n ≡ m = cc in omega (arith, e)
    by false q = cc
shifted-grows (suc k) n bs m p = by (next_digit bs) p (shifted-grows k)
  where
    by : (o : Option (ℕ × List ℕ)) → (o >>= λ d. shifted (n * 10 + d.0) k d.1) ≡ Some m → ((i : ℕ) (cs : List ℕ) (j : ℕ) → shifted i k cs ≡ Some j → i ≤ j) → n ≤ m
    by None q r = cc
    by (Some d) q r = omega (arith, r (n * 10 + d.0) d.1 m q)

-- past 2 ^ 63 there is no way back
pub shifted-past : (n k : ℕ) (bs : List ℕ) → 2 ^ 63 ≤ n → below (2 ^ 63) (shifted n k bs) ≡ None
shifted-past n k bs h = by (shifted n k bs) refl
  where
    above : (m : ℕ) → 2 ^ 63 ≤ m → nat_lt m (2 ^ 63) ≡ false
    above m l = grind (arith, common_steps)

    by : (o : Option ℕ) → shifted n k bs ≡ o → below (2 ^ 63) o ≡ None
    by None e = refl
    by (Some m) e = let l : 2 ^ 63 ≤ m = omega (arith, shifted-grows k n bs m e) in rw (above m l) refl
