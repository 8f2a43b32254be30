-- Sums and depths that saturate at an end.
use Rattle.std.proofs.Common.{◌≡◌, ℕ, suc, ◌+◌, ◌≤◌, min, max, true, false, ◌||◌, nat_lt, arith}
use Rattle.std.proofs.lemmas.Grind.{common_steps}

pub not_below_zero : (k : ℕ) → false ≡ nat_lt k 0
not_below_zero k = grind (arith, common_steps)

pub zero_capped : (e : ℕ) → min 0 e ≡ 0
zero_capped e = omega arith

pub below_max : (k a b : ℕ) → (nat_lt k a || nat_lt k b) ≡ nat_lt k (max a b)
below_max k a b = grind (arith, common_steps)

pub sum_capped : (a b e x y : ℕ) → min a e ≡ x → min b e ≡ y → min (a + b) e ≡ min (x + y) e
sum_capped a b e x y p q = omega arith

pub left_max : (a b k : ℕ) → max a b ≤ k → a ≤ k
left_max a b k h = omega arith

pub right_max : (a b k : ℕ) → max a b ≤ k → b ≤ k
right_max a b k h = omega arith

pub first_below : (d e : ℕ) → 1 ≤ e → true ≡ nat_lt 0 (min (1 + d) e)
first_below d e h = grind (arith, common_steps)

pub next_below : (j d e : ℕ) → suc (suc j) ≤ e → nat_lt j d ≡ nat_lt (suc j) (min (1 + d) e)
next_below j d e h = grind (arith, common_steps)

pub none_at_zero : (d e : ℕ) → 1 ≤ e → min (1 + d) e ≤ 0 → ⊥
none_at_zero d e h k = omega arith

pub below_next : (j d e : ℕ) → suc (suc j) ≤ e → min (1 + d) e ≤ suc j → d ≤ j
below_next j d e h k = omega arith

pub right_capped : (a b e y : ℕ) → min b e ≡ y → min (a + b) e ≡ min (a + y) e
right_capped a b e y q = omega arith

pub min-zero : (b e : ℕ) → min b e ≡ min (b + 0) e
min-zero b e = omega arith

pub both_capped : (a b c d e : ℕ) → min a e ≡ min c e → min b e ≡ min d e → min (a + b) e ≡ min (c + d) e
both_capped a b c d e p q = omega arith
