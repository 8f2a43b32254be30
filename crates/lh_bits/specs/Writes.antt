-- Bits in runs, and what they write.
use Rattle.std.specs.Prelude.{ℕ, ◌+◌, ◌<◌, ◌≡◌, List, [], ◌∷◌, ◌++◌, length, Bool, slice_set}
use Rattle.lh_bits.specs.declared.bit_run.BitRun.{BitRun}

-- bits in a row from a lowest one on, with their numbers
abbrev pub numbered : ℕ → List Bool → List (ℕ × Bool)
numbered lo [] = []
numbered lo (b ∷ bs) = (lo, b) ∷ numbered (lo + 1) bs

-- the bits that runs write
abbrev pub bits_of : List BitRun → List (ℕ × Bool)
bits_of [] = []
bits_of (r ∷ more) = numbered r.lo r.bits ++ bits_of more

-- this many bits are written
pub record AreCounted (n : ℕ) (runs : List BitRun) : Type 0 where
  pub counted : n ≡ length (bits_of runs)

-- the bits after these writes
abbrev pub written : List (ℕ × Bool) → List Bool → List Bool
written [] bits = bits
written (e ∷ more) bits = written more (slice_set bits e.0 e.1)

-- only bits below a number are named
abbrev pub BitsWithin : ℕ → List (ℕ × Bool) → Type 0
BitsWithin n [] = Unit {0}
BitsWithin n (e ∷ more) = (e.0 < n) × BitsWithin n more
