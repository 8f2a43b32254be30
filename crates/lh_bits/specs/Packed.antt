-- How a number of bits lies in words.
use Rattle.std.specs.Prelude.{ℕ, ◌≡◌, ◌+◌, ◌/◌, ◌^◌, ◌<◌, ◌≤◌, List, length}
use Rattle.lh_bits.specs.Flags.{word_bit}

-- as few words as hold n bits, and 0 from bit n on
pub record IsPacked (n : ℕ) (ws : List ℕ) : Type 0 where
  pub narrow : n < 2 ^ 32
  pub sized : length ws ≡ (n + 63) / 64
  pub clear : (i : ℕ) → n ≤ i → word_bit ws i ≡ 0
