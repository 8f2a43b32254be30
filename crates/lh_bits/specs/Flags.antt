-- The bits of words in order, the lowest of the first word first.
use Rattle.std.specs.Prelude.{ℕ, ◌/◌, ◌%◌, Bool, nat_eq, List, [], ◌∷◌, slice_index}
use Rattle.std.proofs.Common.{zero, suc}
use Rattle.std.specs.Int.{bit_at}

-- bit i of the words: 0 or 1, and 0 past their end
unfoldable pub word_bit : List ℕ → ℕ → ℕ
word_bit ws i = bit_at (slice_index ws (i / 64)) (i % 64)

-- the n bits from bit i on
abbrev pub flags : ℕ → ℕ → List ℕ → List Bool
flags zero i ws = []
flags (suc n) i ws = nat_eq (word_bit ws i) 1 ∷ flags n (suc i) ws
