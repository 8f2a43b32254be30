-- Lists of rising numbers, and what they have.
use Rattle.std.specs.Prelude.{ℕ, ◌<◌, List, [], ◌∷◌, ◌≡◌, ◌≢◌, ◌⊎◌, ◌↔◌}

-- it is one of these
abbrev pub IsOneOf : ℕ → List ℕ → Type 0
IsOneOf k [] = ⊥
IsOneOf k (x ∷ more) = (x ≡ k) ⊎ IsOneOf k more

-- each of these is greater
abbrev pub AreAbove : ℕ → List ℕ → Type 0
AreAbove k [] = Unit {0}
AreAbove k (x ∷ more) = (k < x) × AreAbove k more

-- each is less than those after it
abbrev pub IsRising : List ℕ → Type 0
IsRising [] = Unit {0}
IsRising (x ∷ more) = AreAbove x more × IsRising more

-- the new list has this number and what the old one has
abbrev pub HasOneMore : (old : List ℕ) → ℕ → (new : List ℕ) → Type 0
HasOneMore old n new = (k : ℕ) → IsOneOf k new ↔ ((k ≡ n) ⊎ IsOneOf k old)

-- the new list has what the old one has, but for this number
abbrev pub HasOneLess : (old : List ℕ) → ℕ → (new : List ℕ) → Type 0
HasOneLess old n new = (k : ℕ) → IsOneOf k new ↔ (IsOneOf k old × (k ≢ n))
