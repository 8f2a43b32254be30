-- The lines of a text.
use Rattle.std.specs.Prelude.{ℕ, nat_eq, List, [], ◌∷◌, if◌then◌else◌}

abbrev pub add_front : ℕ → List (List ℕ) → List (List ℕ)
add_front b [] = (b ∷ []) ∷ []
add_front b (l ∷ ls) = (b ∷ l) ∷ ls

-- the lines of a text, each ended by byte 10; a last piece that is empty is no line
abbrev pub lines_of : List ℕ → List (List ℕ)
lines_of [] = []
lines_of (b ∷ bs) = if nat_eq b 10 then [] ∷ lines_of bs else add_front b (lines_of bs)
