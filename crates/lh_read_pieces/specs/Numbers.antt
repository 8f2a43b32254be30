-- Numbers in front of the tokens, and integer constants at the end of a line.
use Rattle.std.specs.Prelude.{ℕ, ◌-◌, ◌%◌, ◌^◌, nat_lt, nat_le, List, Option, Some, None, if◌then◌else◌}
use Rattle.lh_unit.specs.Lexemes.{Lexeme}
use Rattle.lh_read_pieces.specs.Pieces.{◌>>=◌, any_word_at, minus_at, end_at, below, small_number}

-- a number below 2^32 in front, and what follows it
unfoldable pub number_at : List Lexeme → Option (ℕ × List Lexeme)
number_at ts = do
  w ← any_word_at ts
  n ← below (2 ^ 32) (small_number w.0)
  Some (n, w.1)

-- the constant of n bits that a number says
abbrev pub positive_bits : ℕ → Option ℕ → Option ℕ
positive_bits n None = None
positive_bits n (Some k) = if nat_lt k (2 ^ n) then Some k else None

-- the constant of n bits that a number behind a minus says
abbrev pub negative_bits : ℕ → Option ℕ → Option ℕ
negative_bits n None = None
negative_bits n (Some k) = if nat_le k (2 ^ (n - 1)) then Some ((2 ^ n - k) % (2 ^ n)) else None

-- the number that ends the line
abbrev pub last_number_at : List Lexeme → Option ℕ
last_number_at ts = do
  w ← any_word_at ts
  _ ← end_at w.1
  small_number w.0

abbrev pub integer_or : ℕ → List Lexeme → Option (List Lexeme) → Option ℕ
integer_or n ts None = positive_bits n (last_number_at ts)
integer_or n ts (Some us) = negative_bits n (last_number_at us)

-- the bits of a constant of n bits, which ends the line
unfoldable pub integer_at : ℕ → List Lexeme → Option ℕ
integer_at n ts = integer_or n ts (minus_at ts)
