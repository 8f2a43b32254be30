-- Digits before and behind a point, and what they say together.
use Rattle.std.proofs.Common.{◌≡◌, ℕ, ◌+◌, ◌-◌, ◌*◌, ◌<◌, ◌≤◌, zero, suc, Bool, true, false, List, [], ◌∷◌, ◌++◌, length, Some, None, nat_eq, nat_le, refl, ap, sym, ◌∙◌, subst, arith, eq-eqb}
use Rattle.std.specs.Prelude.{◌^◌, if◌then◌else◌}
use Rattle.std.proofs.Math.Nat.{pow-suc, one-le-pow, mul-le-mul_right}
use Rattle.std.proofs.lemmas.Grind.{common_steps}
use Rattle.std.proofs.lemmas.Bool.{and_parts}
use Rattle.lh_unit.specs.Numerals.{is_digit, digits_from, number_of}
use Rattle.lh_read_pieces.specs.Pieces.{◌>>=◌}
use Rattle.lh_read_pieces.specs.Times.{digit_run, all_zero, shifted}
use Rattle.lh_read_pieces.specs.Shorter.{bind_some}

-- one text of digits behind another
pub digits-append : (xs ys : List ℕ) (n : ℕ) → digits_from n (xs ++ ys) ≡ (digits_from n xs >>= λ m. digits_from m ys)
digits-append [] ys n = refl
digits-append (b ∷ bs) ys n = by (is_digit b) (digits-append bs ys (n * 10 + (b - 48)))
  where
    by : (c : Bool) → digits_from (n * 10 + (b - 48)) (bs ++ ys) ≡ (digits_from (n * 10 + (b - 48)) bs >>= λ m. digits_from m ys)
        → (if c then digits_from (n * 10 + (b - 48)) (bs ++ ys) else None) ≡ ((if c then digits_from (n * 10 + (b - 48)) bs else None) >>= λ m. digits_from m ys)
    by true r = r
    by false r = refl

pub number-append : (xs ys : List ℕ) (n : ℕ) → number_of xs ≡ Some n → number_of (xs ++ ys) ≡ digits_from n ys
number-append [] ys n e = cc
number-append (b ∷ bs) ys n e = digits-append (b ∷ bs) ys 0 ∙ ap (λ o. o >>= λ m. digits_from m ys) e

pub number-split : (xs ys : List ℕ) (m : ℕ) → 1 ≤ length xs → number_of (xs ++ ys) ≡ Some m → (n : ℕ) × (number_of xs ≡ Some n) × (digits_from n ys ≡ Some m)
number-split [] ys m h e = absurd (omega (arith, h))
number-split (b ∷ bs) ys m h e = bind_some (digits_from 0 (b ∷ bs)) (λ n. digits_from n ys) m (sym (digits-append (b ∷ bs) ys 0) ∙ e)

pub number-some : (xs : List ℕ) (n : ℕ) → number_of xs ≡ Some n → 1 ≤ length xs
number-some [] n e = cc
number-some (b ∷ bs) n e = omega arith

-- digits, and then no digit, are as long a run
pub digits-run : (xs u : List ℕ) (n m : ℕ) → digits_from n xs ≡ Some m → digit_run u ≡ 0 → digit_run (xs ++ u) ≡ length xs
digits-run [] u n m e h = h
digits-run (b ∷ bs) u n m e h = by (is_digit b) e (digits-run bs u (n * 10 + (b - 48)) m)
  where
    by : (c : Bool) → (if c then digits_from (n * 10 + (b - 48)) bs else None) ≡ Some m → (digits_from (n * 10 + (b - 48)) bs ≡ Some m → digit_run u ≡ 0 → digit_run (bs ++ u) ≡ length bs)
        → (if c then digit_run (bs ++ u) + 1 else 0) ≡ suc (length bs)
    by true q r = omega (arith, r q h)
    by false q r = cc

pub number-run : (xs u : List ℕ) (n : ℕ) → number_of xs ≡ Some n → digit_run u ≡ 0 → digit_run (xs ++ u) ≡ length xs
number-run [] u n e h = cc
number-run (b ∷ bs) u n e h = digits-run (b ∷ bs) u 0 n e h

pub run-le : (bs : List ℕ) → digit_run bs ≤ length bs
run-le [] = omega arith
run-le (b ∷ bs) = by (is_digit b) (run-le bs)
  where
    by : (c : Bool) → digit_run bs ≤ length bs → (if c then digit_run bs + 1 else 0) ≤ suc (length bs)
    by true r = omega (arith, r)
    by false r = omega arith

-- zeros behind a number
zeros-digits : (bs : List ℕ) (n : ℕ) → all_zero bs ≡ true → digits_from n bs ≡ Some (n * 10 ^ length bs)
zeros-digits [] n e = let q : n ≡ n * 1 = omega arith in ap Some q
zeros-digits (b ∷ bs) n e =
    let t = and_parts (nat_eq b 48) (all_zero bs) e in
    let q : nat_eq b 48 ≡ true = t.0 in
    let f : b ≡ 48 = grind (arith, common_steps) in
    let v : (n * 10 + 0) * 10 ^ length bs ≡ n * 10 ^ suc (length bs) = omega (arith, ap (λ x. n * x) (pow-suc 10 (length bs))) in
    ap (λ x. digits_from n (x ∷ bs)) f ∙ zeros-digits bs (n * 10 + 0) t.1 ∙ ap Some v

-- what digits add to a number before them
record Rest (n m : ℕ) (bs : List ℕ) : Type 0 where
  left : ℕ
  is : m ≡ n * 10 ^ length bs + left
  few : left < 10 ^ length bs
  none : left ≡ 0 → all_zero bs ≡ true

both_zero : (d l r : ℕ) → 1 ≤ l → d * l + r ≡ 0 → (d ≡ 0) × (r ≡ 0)
both_zero zero l r h e = (refl, omega (arith, e))
both_zero (suc d) l r h e = absurd (omega (arith, e))

rest_step : (n m b l : ℕ) (bs : List ℕ) → is_digit b ≡ true → (r : Rest (n * 10 + (b - 48)) m bs) → l ≡ 10 ^ length bs → Rest n m (b ∷ bs)
rest_step n m b l bs d r e =
    let t = and_parts (nat_le 48 b) (nat_le b 57) d in
    let lo : nat_le 48 b ≡ true = t.0 in let hi : nat_le b 57 ≡ true = t.1 in
    let lo_b : 48 ≤ b = grind (arith, common_steps) in let hi_b : b ≤ 57 = grind (arith, common_steps) in
    let p = pow-suc 10 (length bs) in
    let is_zero : b ≡ 48 → nat_eq b 48 ≡ true = λ h. eq-eqb b 48 h in
    let nine : (b - 48) * l ≤ 9 * l = mul-le-mul_right l (omega arith) in
    let one : 1 ≤ l = subst (λ x. 1 ≤ x) (sym e) (one-le-pow (length bs) 10 (omega arith)) in
    record {
      left = (b - 48) * l + r.left;
      is = omega (arith, r.is, ap (λ x. n * x) p, ap (λ x. n * x) e, ap (λ x. (b - 48) * x) e);
      few = omega (arith, r.few, nine, p, e);
      none = λ z. let f = both_zero (b - 48) l r.left one z in
          let g : nat_eq b 48 ≡ true = is_zero (omega (arith, f.0)) in
          let y : all_zero bs ≡ true = r.none f.1 in
          rw (g, y) refl;
    }

digits-rest : (bs : List ℕ) (n m : ℕ) → digits_from n bs ≡ Some m → Rest n m bs
digits-rest [] n m e = let f : n ≡ m = cc in record { left = 0; is = omega (arith, f); few = omega arith; none = λ _. refl }
digits-rest (b ∷ bs) n m e = by (is_digit b) refl e (digits-rest bs (n * 10 + (b - 48)) m)
  where
    by : (c : Bool) → is_digit b ≡ c → (if c then digits_from (n * 10 + (b - 48)) bs else None) ≡ Some m → (digits_from (n * 10 + (b - 48)) bs ≡ Some m → Rest (n * 10 + (b - 48)) m bs)
        → Rest n m (b ∷ bs)
    by true d q r = rest_step n m b (10 ^ length bs) bs d (r q) refl
    by false d q r = cc

same_quotient : (x n l r : ℕ) → x * l ≡ n * l + r → r < l → (x ≡ n) × (r ≡ 0)
same_quotient zero zero l r e h = (refl, omega (arith, e))
same_quotient zero (suc n) l r e h = absurd (omega (arith, e, h))
same_quotient (suc x) zero l r e h = absurd (omega (arith, e, h))
same_quotient (suc x) (suc n) l r e h = let s = same_quotient x n l r (omega (arith, e)) h in (ap suc s.0, s.1)

-- digits behind a point say a whole number: with as many zeros behind it as there are places left
pub shifted-sound : (k n : ℕ) (bs : List ℕ) (fs : ℕ) → shifted n k bs ≡ Some fs → (m : ℕ) × (digits_from n bs ≡ Some m) × (m * 10 ^ k ≡ fs * 10 ^ length bs)
shifted-sound zero n bs fs p = by (all_zero bs) refl p
  where
    by : (t : Bool) → all_zero bs ≡ t → (if t then Some n else None) ≡ Some fs → (m : ℕ) × (digits_from n bs ≡ Some m) × (m * 10 ^ 0 ≡ fs * 10 ^ length bs)
    by true z q = let e : n ≡ fs = cc in (n * 10 ^ length bs, zeros-digits bs n z, omega (arith, ap (λ x. x * 10 ^ length bs) e))
    by false z q = cc
shifted-sound (suc k) n [] fs p =
    let s = shifted-sound k (n * 10 + 0) [] fs p in
    let e : n * 10 + 0 ≡ s.0 = cc in
    (n, refl, omega (arith, s.2, ap (λ x. x * 10 ^ k) e, ap (λ x. n * x) (pow-suc 10 k)))
shifted-sound (suc k) n (b ∷ bs) fs p = by (is_digit b) p (shifted-sound k (n * 10 + (b - 48)) bs fs)
  where
    by : (c : Bool) → ◌>>=◌ {A = ℕ × List ℕ} (if c then Some (b - 48, bs) else None) (λ d. shifted (n * 10 + d.0) k d.1) ≡ Some fs
        → (shifted (n * 10 + (b - 48)) k bs ≡ Some fs → (m : ℕ) × (digits_from (n * 10 + (b - 48)) bs ≡ Some m) × (m * 10 ^ k ≡ fs * 10 ^ length bs))
        → (m : ℕ) × ((if c then digits_from (n * 10 + (b - 48)) bs else None) ≡ Some m) × (m * 10 ^ suc k ≡ fs * 10 ^ suc (length bs))
    by true q r = let s = r q in (s.0, s.1, omega (arith, s.2, ap (λ x. s.0 * x) (pow-suc 10 k), ap (λ x. fs * x) (pow-suc 10 (length bs))))
    by false q r = cc

pub shifted-again : (k n : ℕ) (bs : List ℕ) (m fs : ℕ) → digits_from n bs ≡ Some m → m * 10 ^ k ≡ fs * 10 ^ length bs → shifted n k bs ≡ Some fs
shifted-again zero n bs m fs e w =
    let r = digits-rest bs n m e in
    let v : m * 1 ≡ fs * 10 ^ length bs = w in
    let i : m ≡ n * 10 ^ length bs + r.left = r.is in
    let q = same_quotient fs n (10 ^ length bs) r.left (omega (arith, v, i)) r.few in
    let z : all_zero bs ≡ true = r.none q.1 in
    rw z (ap Some (sym q.0))
shifted-again (suc k) n [] m fs e w =
    let f : n ≡ m = cc in
    let g : (n * 10 + 0) * 10 ^ k ≡ fs * 1 = omega (arith, w, ap (λ x. x * 10 ^ suc k) f, ap (λ x. n * x) (pow-suc 10 k)) in
    shifted-again k (n * 10 + 0) [] (n * 10 + 0) fs refl g
shifted-again (suc k) n (b ∷ bs) m fs e w = by (is_digit b) e (shifted-again k (n * 10 + (b - 48)) bs m fs)
  where
    v : m * 10 ^ k ≡ fs * 10 ^ length bs
    v = let u : m * 10 ^ suc k ≡ fs * 10 ^ suc (length bs) = w in omega (arith, u, ap (λ x. m * x) (pow-suc 10 k), ap (λ x. fs * x) (pow-suc 10 (length bs)))

    by : (c : Bool) → (if c then digits_from (n * 10 + (b - 48)) bs else None) ≡ Some m
        → (digits_from (n * 10 + (b - 48)) bs ≡ Some m → m * 10 ^ k ≡ fs * 10 ^ length bs → shifted (n * 10 + (b - 48)) k bs ≡ Some fs)
        → ◌>>=◌ {A = ℕ × List ℕ} (if c then Some (b - 48, bs) else None) (λ d. shifted (n * 10 + d.0) k d.1) ≡ Some fs
    by true q r = r q v
    by false q r = cc
