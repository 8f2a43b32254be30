-- The Boolean laws of the operations.
use Rattle.std.proofs.Common.{◌≡◌, ℕ, zero, suc, ◌-◌, ◌^◌, ◌<◌, [], ◌∷◌, Bool, true, false, not, refl, sym, ap, ◌∙◌, arith, bit_and, bit_or}
use Rattle.std.proofs.lemmas.Nat.{pow_pos, and_mask, and_comm, or_comm, and-not, or_disjoint, or_lt, le_or_r, and_assoc}
use Rattle.std.proofs.Math.Nat.{mod-eq_of_lt}
use Rattle.std.specs.Int.Bits.{and_self, or_self, and_zero_r, or_zero_r}
use Rattle.lh_types.specs.Values.{Datum, int_value}
use Rattle.lh_types.specs.SameValue.{same_datum}
use Rattle.lh_types.specs.SameValueLaws.{same_datum-is, same_datum-refl}
use Rattle.lh_types.specs.ApplyInt.{integer_row, row_width}
use Rattle.lh_types.specs.Apply.{apply, bit_value}
use Rattle.lh_types.specs.declared.op.Op.TheVariants.{Not, And, Or, Eq, Neq}
use Rattle.lh_ops.specs.Laws.{BitRows, BitsAreBoolean, WordRows, WordsAreBoolean, EqualityTells, MuxChooses}

bit_rows : (x y : Bool) → BitRows x y
unfolding apply integer_row row_width
bit_rows true true = record { not_bit = refl; and_bits = refl; or_bits = refl; xor_bits = refl; eq_bits = refl; neq_bits = refl }
bit_rows true false = record { not_bit = refl; and_bits = refl; or_bits = refl; xor_bits = refl; eq_bits = refl; neq_bits = refl }
bit_rows false true = record { not_bit = refl; and_bits = refl; or_bits = refl; xor_bits = refl; eq_bits = refl; neq_bits = refl }
bit_rows false false = record { not_bit = refl; and_bits = refl; or_bits = refl; xor_bits = refl; eq_bits = refl; neq_bits = refl }

each_bit_is : (a : ℕ) → a < 2 → (b : Bool) × (int_value 1 a ≡ bit_value b)
each_bit_is zero h = (false, refl)
each_bit_is (suc zero) h = (true, refl)
each_bit_is (suc (suc a)) h = absurd (omega arith)

pub bits_are_boolean_lem : BitsAreBoolean
bits_are_boolean_lem = record { each_bit = each_bit_is; rows = bit_rows }

pub mux_chooses_lem : MuxChooses
unfolding apply
mux_chooses_lem true f t = refl
mux_chooses_lem false f t = refl

-- ---- equality

true_from_bit : (b : Bool) → bit_value b ≡ bit_value true → b ≡ true
true_from_bit true e = refl
true_from_bit false e = cc

eq_same : (v : Datum) → apply Eq (v ∷ v ∷ []) ≡ bit_value true
unfolding apply
eq_same v = ap bit_value (same_datum-refl v)

neq_same : (v : Datum) → apply Neq (v ∷ v ∷ []) ≡ int_value 1 0
unfolding apply
neq_same v = ap (λ b. bit_value (not b)) (same_datum-refl v)

eq_told : (v w : Datum) → apply Eq (v ∷ w ∷ []) ≡ bit_value true → v ≡ w
unfolding apply
eq_told v w e = same_datum-is v w (true_from_bit (same_datum v w) e)

pub equality_tells_lem : EqualityTells
equality_tells_lem = record { same = eq_same; same_not = neq_same; told = eq_told }

-- ---- words

module _ (n : ℕ) where
  and_of : (a b : ℕ) → apply And (int_value n a ∷ int_value n b ∷ []) ≡ int_value n (bit_and a b)
  unfolding apply integer_row row_width
  and_of a b = refl

  or_of : (a b : ℕ) → apply Or (int_value n a ∷ int_value n b ∷ []) ≡ int_value n (bit_or a b)
  unfolding apply integer_row row_width
  or_of a b = refl

  not_of : (a : ℕ) → apply Not (int_value n a ∷ []) ≡ int_value n (2 ^ n - 1 - a)
  unfolding apply integer_row row_width
  not_of a = refl

  below_ones : 2 ^ n - 1 < 2 ^ n
  below_ones = omega (arith, pow_pos n)

  not_below : (a : ℕ) → 2 ^ n - 1 - a < 2 ^ n
  not_below a = omega (arith, pow_pos n)

  and_mask_lem : (a : ℕ) → a < 2 ^ n → bit_and a (2 ^ n - 1) ≡ a
  and_mask_lem a h = and_mask a n ∙ mod-eq_of_lt h

  and_apart : (a : ℕ) → a < 2 ^ n → bit_and a (2 ^ n - 1 - a) ≡ 0
  and_apart a h = and_comm a (2 ^ n - 1 - a) ∙ omega (arith, and-not n a a h h, and_self a)

  or_all : (a : ℕ) → a < 2 ^ n → bit_or a (2 ^ n - 1 - a) ≡ 2 ^ n - 1
  or_all a h = or_disjoint a (2 ^ n - 1 - a) (and_apart a h) ∙ omega arith

  or_with_ones : (a : ℕ) → a < 2 ^ n → bit_or a (2 ^ n - 1) ≡ 2 ^ n - 1
  or_with_ones a h = omega (arith, le_or_r a (2 ^ n - 1), or_lt n a (2 ^ n - 1) h below_ones)

  both_halves : (q a : ℕ) → q < 2 ^ n → a < 2 ^ n → bit_or (bit_and q a) (bit_and q (2 ^ n - 1 - a)) ≡ q
  both_halves q a f h =
      let m : ℕ = 2 ^ n - 1 - a in
      let inner : bit_and a (bit_and q m) ≡ 0 = sym (and_assoc m a q) ∙ ap (λ x. bit_and x m) (and_comm a q) ∙ and_assoc m q a ∙ ap (bit_and q) (and_apart a h) ∙ and_zero_r q in
      let apart : bit_and (bit_and q a) (bit_and q m) ≡ 0 = and_assoc (bit_and q m) q a ∙ ap (bit_and q) inner ∙ and_zero_r q in
      or_disjoint (bit_and q a) (bit_and q (2 ^ n - 1 - a)) apart ∙ omega (arith, and-not n a q h f, and_comm q a, and_comm q (2 ^ n - 1 - a))

  -- the same on values
  word_rows : (q a : ℕ) → q < 2 ^ n → a < 2 ^ n → WordRows n q a
  word_rows q a f h = record {
    and_comm = rw (and_of q a, and_of a q) (ap (int_value n) (and_comm q a));
    and_zero = rw (and_of a 0) (ap (int_value n) (and_zero_r a));
    and_ones = rw (and_of a (2 ^ n - 1)) (ap (int_value n) (and_mask_lem a h));
    and_self = rw (and_of a a) (ap (int_value n) (and_self a));
    and_not = rw (not_of a, and_of a (2 ^ n - 1 - a)) (ap (int_value n) (and_apart a h));
    or_comm = rw (or_of q a, or_of a q) (ap (int_value n) (or_comm q a));
    or_zero = rw (or_of a 0) (ap (int_value n) (or_zero_r a));
    or_ones = rw (or_of a (2 ^ n - 1)) (ap (int_value n) (or_with_ones a h));
    or_self = rw (or_of a a) (ap (int_value n) (or_self a));
    or_not = rw (not_of a, or_of a (2 ^ n - 1 - a)) (ap (int_value n) (or_all a h));
    or_of_both = rw (not_of a, and_of q a, and_of q (2 ^ n - 1 - a), or_of (bit_and q a) (bit_and q (2 ^ n - 1 - a))) (ap (int_value n) (both_halves q a f h));
    not_not = rw (not_of a, not_of (2 ^ n - 1 - a)) (ap (int_value n) (omega arith));
  }

pub words_are_boolean_lem : WordsAreBoolean
words_are_boolean_lem = word_rows
