-- What a read takes, what a write appends, and when a count rose.
use Rattle.std.specs.Prelude.{◌≡◌, ℕ, ◌<◌, ◌≤◌, List, ◌++◌, Option, Some, IfSome, length, take, drop}

-- the count is greater than before, or is 2^64 - 1
abbrev pub Rose : ℕ → ℕ → Type 0
Rose old new = new < 18446744073709551615 → old < new

-- of the bytes that were left the first n are in front of the room now, and the others are left
pub record FillsFront (was_left : List ℕ) (left : Option (List ℕ)) (old_room new_room : List ℕ) (n : ℕ) : Type 0 where
  pub within : n ≤ length was_left
  pub given : new_room ≡ take n was_left ++ drop n old_room
  pub rest : left ≡ Some (drop n was_left)

-- the text was appended, where the sink tells what was written
abbrev pub Appends : Option (List ℕ) → Option (List ℕ) → List ℕ → Type 0
Appends was_written written text = IfSome was_written (λ before. written ≡ Some (before ++ text))

-- a proper prefix of the text was appended
pub record AppendsProperPrefix (was_written written : Option (List ℕ)) (text : List ℕ) : Type 0 where
  pub count : ℕ
  pub is_proper : count < length text
  pub told : Appends was_written written (take count text)
