-- What it is to write to a text.
use Rattle.std.specs.Prelude.{◌≡◌, ◌++◌, ℕ, List, Bool, true}

-- a text as far as it is written: its bytes, and whether memory sufficed for all of them
pub record Written : Type 0 where
  pub items : List ℕ
  pub is_whole : Bool

-- Behind what stood there, these bytes were written, and nothing else. A text that is whole was whole before.
abbrev pub Writes : Written → Written → List ℕ → Type 0
Writes before after bytes = after.is_whole ≡ true → before.is_whole ≡ true × after.items ≡ before.items ++ bytes

-- Behind a start, a whole is to be written, of which this rest is left.
pub record Leaves (start now : Written) (rest whole : List ℕ) : Type 0 where
  pub left : now.is_whole ≡ true → start.is_whole ≡ true × now.items ++ rest ≡ start.items ++ whole
