-- Counts that stay at 2^64 - 1.
use Rattle.std.specs.Prelude.{ℕ, ◌+◌, min, max}

-- a count after n more, which stays at 2^64 - 1
abbrev pub raised : ℕ → ℕ → ℕ
raised c n = max c (min (c + n) 18446744073709551615)
