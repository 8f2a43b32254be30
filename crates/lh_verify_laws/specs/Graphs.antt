-- A graph of units by their ids, searched depth first: the units that are open.
use Rattle.std.specs.Prelude.{◌≡◌, ◌⊎◌, ℕ, nat_eq, Bool, true, false, List, [], ◌∷◌, Option, Some}
use Rattle.std.specs.List.{list_any}

-- n is one of these
abbrev pub IsIn : List ℕ → ℕ → Type 0
IsIn [] n = ⊥
IsIn (x ∷ more) n = (x ≡ n) ⊎ IsIn more n

-- whether one of these is the unit n
abbrev pub is_open : (opened : List ℕ) → ℕ → Bool
is_open opened n = list_any (λ m. nat_eq m n) opened

-- whether an open unit is named, and else what is found below it
abbrev pub met_or : (below : ℕ → Option ℕ) → (is_open : Bool) → ℕ → Option ℕ
met_or below true n = Some n
met_or below false n = below n
