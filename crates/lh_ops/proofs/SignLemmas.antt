-- Words in two's complement, by sign and absolute value.
use Rattle.std.proofs.Common.{◌≡◌, ℕ, zero, suc, ◌+◌, ◌-◌, ◌*◌, ◌/◌, ◌%◌, ◌^◌, ◌≤◌, ◌<◌, refl, sym, ap, ◌∙◌, arith, add-one, Bool, true, false, not, ◌⊎◌, inl, inr, eqb, leb, ltb, pos, neg_ℤ, ◌-ℤ◌, unsigned_abs}
use Rattle.std.proofs.lemmas.Bool.{lt-ltb, le-ltb, le-leb, lt-leb, leb-true, leb-false, cases_lt, eq-eqb, ne_eqb}
use Rattle.std.proofs.lemmas.Nat.{pow_pos, le-div, div_below, mod_below}
use Rattle.std.proofs.lemmas.Int.{ints}
use Rattle.std.proofs.Math.Nat.{zero-mod, mod-eq_of_lt, mod_self, suc-mod, pos_of_ne-zero}
use Rattle.std.specs.Int.{int_rem_euclid}
use Rattle.lh_types.specs.ApplyInt.{signed, wrapped, int_mod, divided}
use Rattle.lh_ops.specs.Signs.{with_sign, has_sign}

-- ---- the sign bit

-- a quotient is not 0 exactly from the divisor on
pub reaches : (a p : ℕ) → 0 < p → not (eqb (a / p) 0) ≡ leb p a
reaches a p h = cases (cases_lt a p)
  where
    cases : (a < p) ⊎ (p ≤ a) → not (eqb (a / p) 0) ≡ leb p a
    cases (inl l) = let q : a < 1 * p = omega arith in let d : a / p < 1 = div_below a p 1 h q in ap not (eq-eqb (a / p) 0 (omega arith)) ∙ sym (lt-leb p a l)
    cases (inr l) = let q : 1 * p ≤ a = omega arith in let d : 1 ≤ a / p = le-div 1 a p h q in ap not (ne_eqb (a / p) 0 (λ e. omega (arith, e))) ∙ sym (le-leb p a l)

pub sign_bit : (n a : ℕ) → not (eqb (a / 2 ^ (n - 1)) 0) ≡ has_sign n a
sign_bit n a = reaches a (2 ^ (n - 1)) (pow_pos (n - 1))

-- ---- a word by its sign and absolute value

below_zero : (p a : ℕ) → a < p → pos a -ℤ pos p ≡ neg_ℤ (pos (p - a))
below_zero p a h = omega (arith, ints)

abs_neg : (m : ℕ) → unsigned_abs (neg_ℤ (pos m)) ≡ m
abs_neg zero = refl
abs_neg (suc m) = refl

pub signed_neg : (n a : ℕ) → a < 2 ^ n → has_sign n a ≡ true → signed n a ≡ neg_ℤ (pos (2 ^ n - a))
signed_neg n a h s = let t : ltb a (2 ^ (n - 1)) ≡ false = le-ltb a (2 ^ (n - 1)) (leb-true (2 ^ (n - 1)) a s) in rw t (below_zero (2 ^ n) a h)

pub signed_pos : (n a : ℕ) → has_sign n a ≡ false → signed n a ≡ pos a
signed_pos n a s = let t : ltb a (2 ^ (n - 1)) ≡ true = lt-ltb a (2 ^ (n - 1)) (leb-false (2 ^ (n - 1)) a s) in rw t refl

pub abs_signed_neg : (n a : ℕ) → a < 2 ^ n → has_sign n a ≡ true → unsigned_abs (signed n a) ≡ 2 ^ n - a
abs_signed_neg n a h s = ap unsigned_abs (signed_neg n a h s) ∙ abs_neg (2 ^ n - a)

pub abs_signed_pos : (n a : ℕ) → has_sign n a ≡ false → unsigned_abs (signed n a) ≡ a
abs_signed_pos n a s = ap unsigned_abs (signed_pos n a s)

-- what is left of 0 - a modulo 2 ^ n
pub negated_abs : (n a : ℕ) → a < 2 ^ n → has_sign n a ≡ true → (0 + (2 ^ n - a)) % 2 ^ n ≡ unsigned_abs (signed n a)
negated_abs n a h s =
    let p : 0 < 2 ^ (n - 1) = pow_pos (n - 1) in
    let l : 2 ^ (n - 1) ≤ a = leb-true (2 ^ (n - 1)) a s in
    let k : 0 + (2 ^ n - a) < 2 ^ n = omega arith in
    mod-eq_of_lt k ∙ omega (arith, abs_signed_neg n a h s)

-- a word is what its sign and absolute value say
pub by_sign : (n a : ℕ) (s : Bool) → a < 2 ^ n → has_sign n a ≡ s → signed n a ≡ with_sign s (unsigned_abs (signed n a))
by_sign n a true h s = rw (abs_signed_neg n a h s) (signed_neg n a h s)
by_sign n a false h s = rw (abs_signed_pos n a s) (signed_pos n a s)

-- the absolute value is below 2 ^ n, and not 0 where the word is not
pub abs_below : (n a : ℕ) (s : Bool) → a < 2 ^ n → has_sign n a ≡ s → unsigned_abs (signed n a) < 2 ^ n
abs_below n a true h s = let p : 0 < 2 ^ (n - 1) = pow_pos (n - 1) in let l : 2 ^ (n - 1) ≤ a = leb-true (2 ^ (n - 1)) a s in omega (arith, abs_signed_neg n a h s)
abs_below n a false h s = omega (arith, abs_signed_pos n a s)

pub abs_positive : (n a : ℕ) (s : Bool) → a < 2 ^ n → 0 < a → has_sign n a ≡ s → 0 < unsigned_abs (signed n a)
abs_positive n a true h k s = omega (arith, abs_signed_neg n a h s)
abs_positive n a false h k s = omega (arith, abs_signed_pos n a s)

-- ---- the remainder with the sign of the divisor

next_mod : (p q : ℕ) → 0 < q → ((suc p % q ≡ 0) × (p % q + 1 ≡ q)) ⊎ (suc p % q ≡ p % q + 1)
next_mod p q h = let l : p % q < q = mod_below p q h in cases (cases_lt (suc (p % q)) q)
  where
    cases : (suc (p % q) < q) ⊎ (q ≤ suc (p % q)) → ((suc p % q ≡ 0) × (p % q + 1 ≡ q)) ⊎ (suc p % q ≡ p % q + 1)
    cases (inl k) = inr (suc-mod p q ∙ mod-eq_of_lt k ∙ omega arith)
    cases (inr k) = let l : p % q < q = mod_below p q h in let e : suc (p % q) ≡ q = omega arith in inl (suc-mod p q ∙ ap (λ r. r % q) e ∙ mod_self q, omega arith)

euclid_zero : (s : Bool) (p q : ℕ) → 0 < q → p % q ≡ 0 → int_rem_euclid (with_sign s p) (pos q) ≡ pos 0
euclid_zero false p q h e = ap pos e
euclid_zero true zero q h e = ap pos e
euclid_zero true (suc p) q h e = ap pos (cases (next_mod p q h))
  where
    cases : ((suc p % q ≡ 0) × (p % q + 1 ≡ q)) ⊎ (suc p % q ≡ p % q + 1) → q - 1 - p % q ≡ 0
    cases (inl k) = omega (arith, k.1)
    cases (inr k) = absurd (omega (arith, e, k))

euclid_neg : (p q : ℕ) → 0 < q → 0 < p % q → int_rem_euclid (with_sign true p) (pos q) ≡ pos (q - p % q)
euclid_neg zero q h k = absurd (omega (arith, zero-mod q))
euclid_neg (suc p) q h k = ap pos (cases (next_mod p q h))
  where
    cases : ((suc p % q ≡ 0) × (p % q + 1 ≡ q)) ⊎ (suc p % q ≡ p % q + 1) → q - 1 - p % q ≡ q - suc p % q
    cases (inl e) = absurd (omega (arith, e.0))
    cases (inr e) = omega (arith, e)

neg_sign : (s : Bool) (p : ℕ) → neg_ℤ (with_sign s p) ≡ with_sign (not s) p
neg_sign false p = refl
neg_sign true zero = refl
neg_sign true (suc p) = refl

mod_zero : (s t : Bool) (p q : ℕ) → 0 < q → p % q ≡ 0 → int_mod (with_sign s p) (with_sign t q) ≡ pos 0
mod_zero s false p q h e = euclid_zero s p q h e
mod_zero s true p zero h e = absurd (omega arith)
mod_zero s true p (suc q) h e = rw (neg_sign s p, add-one) (ap neg_ℤ (euclid_zero (not s) p (suc q) h e))

mod_apart : (s t : Bool) (p q : ℕ) → 0 < q → 0 < p % q → s ≡ not t → int_mod (with_sign s p) (with_sign t q) ≡ with_sign t (q - p % q)
mod_apart s false p q h k e = rw e (euclid_neg p q h k)
mod_apart s true p zero h k e = absurd (omega arith)
mod_apart s true p (suc q) h k e = rw (e, add-one) (ap neg_ℤ (euclid_neg p (suc q) h k))

-- ---- the words of these remainders, from what the code has computed

divided_by : (b r : ℕ) → (b ≡ 0 → ⊥) → divided b r ≡ r
divided_by b r h = rw (ne_eqb b 0 h) refl

module _ (n a b x y : ℕ) (t : Bool) (fits : (a < 2 ^ n) × (b < 2 ^ n)) (nonzero : b ≡ 0 → ⊥) (x_is : x ≡ unsigned_abs (signed n a)) (y_is : y ≡ unsigned_abs (signed n b))
    (t_is : t ≡ has_sign n b) where
  y_positive : 0 < y
  y_positive = let k : 0 < b = pos_of_ne-zero nonzero in omega (arith, y_is, abs_positive n b t fits.1 k (sym t_is))

  b_signed : signed n b ≡ with_sign t y
  b_signed = rw y_is (by_sign n b t fits.1 (sym t_is))

  a_signed : (s : Bool) → s ≡ has_sign n a → signed n a ≡ with_sign s x
  a_signed s s_is = rw x_is (by_sign n a s fits.0 (sym s_is))

  pub modulo_zero : x % y ≡ 0 → 0 ≡ divided b (wrapped n (int_mod (signed n a) (signed n b)))
  modulo_zero e =
      let m : int_mod (signed n a) (signed n b) ≡ pos 0 = rw (a_signed (has_sign n a) refl, b_signed) (mod_zero (has_sign n a) t x y y_positive e) in
      sym (divided_by b _ nonzero ∙ ap (wrapped n) m ∙ zero-mod (2 ^ n))

  pub modulo_apart : (s : Bool) → s ≡ has_sign n a → s ≡ not t → (x % y ≡ 0 → ⊥) → wrapped n (with_sign t (y - x % y)) ≡ divided b (wrapped n (int_mod (signed n a) (signed n b)))
  modulo_apart s s_is r e =
      let m : int_mod (signed n a) (signed n b) ≡ with_sign t (y - x % y) = rw (a_signed s s_is, b_signed) (mod_apart s t x y y_positive (pos_of_ne-zero e) r) in
      sym (divided_by b _ nonzero ∙ ap (wrapped n) m)
