-- Writes by instants: the instants strictly rise, and at each of them something is written, no bit twice.
use Rattle.std.specs.Prelude.{◌≡◌, ℕ, ◌<◌, List, [], ◌∷◌, Bool, true, false}
use Rattle.lh_time.specs.declared.Instant.{Instant}
use Rattle.lh_time.specs.Order.{instant_lt}

-- there is something in the list
abbrev pub is_filled : {X : Type 0} → List X → Bool
is_filled [] = false
is_filled (x ∷ more) = true

-- the first instant of these, if there is one, is later
abbrev pub FirstInstantIsLater : Instant → List (Instant × List (ℕ × Bool)) → Type 0
FirstInstantIsLater t [] = Unit {0}
FirstInstantIsLater t (d ∷ more) = instant_lt t d.0 ≡ true

-- the bit of the first of these, if there is one, is above
abbrev pub FirstBitIsAbove : ℕ → List (ℕ × Bool) → Type 0
FirstBitIsAbove b [] = Unit {0}
FirstBitIsAbove b (w ∷ more) = b < w.0

-- the bits strictly rise, so that none is named twice
abbrev pub BitsRise : List (ℕ × Bool) → Type 0
BitsRise [] = Unit {0}
BitsRise (w ∷ more) = FirstBitIsAbove w.0 more × BitsRise more

-- each instant is before the next, its list is not empty, and the bits of the list strictly rise
abbrev pub IsGrouped : List (Instant × List (ℕ × Bool)) → Type 0
IsGrouped [] = Unit {0}
IsGrouped (d ∷ more) = (is_filled d.1 ≡ true) × BitsRise d.1 × FirstInstantIsLater d.0 more × IsGrouped more

-- no list is empty, and no two that follow each other are of one instant
abbrev pub Apart : List (Instant × List (ℕ × Bool)) → Type 0
Apart [] = Unit {0}
Apart (d ∷ []) = is_filled d.1 ≡ true
Apart (d ∷ e ∷ more) = (is_filled d.1 ≡ true) × (d.0 ≡ e.0 → ⊥) × Apart (e ∷ more)
