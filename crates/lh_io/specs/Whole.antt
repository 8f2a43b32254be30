-- How many bytes come when a source is read to its end.
use Rattle.std.specs.Prelude.{◌≡◌, ℕ, ◌+◌, ◌≤◌, List, Option, Some, IfSome, length, drop}
use Rattle.lh_types.specs.Raised.{raised}
use Rattle.lh_io.specs.declared.whole.ReadAllFault.{ReadAllFault}
use Rattle.lh_io.specs.declared.whole.ReadAllFault.TheVariants.{ReadFault, TooLong, OutOfMemory}

-- the number of bytes that came is one more than the limit exactly where they are too long, and else at most the limit
abbrev pub IsCountWithin : ReadAllFault → ℕ → ℕ → Type 0
IsCountWithin ReadFault limit n = n ≤ limit
IsCountWithin TooLong limit n = n ≡ limit + 1
IsCountWithin OutOfMemory limit n = n ≤ limit

-- n bytes were taken: what is left lacks that many in front, and the count rose by them
pub record TakesBytes (was_left left : Option (List ℕ)) (was_taken taken n : ℕ) : Type 0 where
  pub counted : taken ≡ raised was_taken n
  pub told : IfSome was_left (λ bytes. (n ≤ length bytes) × (left ≡ Some (drop n bytes)))
