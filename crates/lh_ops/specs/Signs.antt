-- Whole numbers by sign and absolute value.
use Rattle.std.specs.Prelude.{ℕ, ◌-◌, ◌^◌, Bool, true, false, nat_le, ℤ, pos, neg_ℤ}

-- the whole number of this absolute value, below zero where the sign is set
abbrev pub with_sign : Bool → ℕ → ℤ
with_sign true m = neg_ℤ (pos m)
with_sign false m = pos m

-- whether the sign bit of the n bits of a is set
abbrev pub has_sign : ℕ → ℕ → Bool
has_sign n a = nat_le (2 ^ (n - 1)) a
