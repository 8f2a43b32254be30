-- The first fault of a module.
use Rattle.std.specs.Prelude.{◌≡◌, ℕ, List, ◌⊎◌}
use Rattle.lh_unit_names.specs.declared.name.UnitName.{UnitName}
use Rattle.lh_unit.specs.Contents.{ItemText}
use Rattle.lh_unit.specs.Reads.{Reads}
use Rattle.lh_unit.specs.WellFormed.{FaultKind, IsFirstFault, IsFaultless}

-- There is at most one.
abbrev pub OneFirstFault : Type 0
OneFirstFault = (items : List ItemText) (u v : UnitName) (i j : ℕ) (k l : FaultKind) → IsFirstFault items u i k → IsFirstFault items v j l → (u ≡ v) × (i ≡ j) × (k ≡ l)

-- There is none where no instruction has a fault.
abbrev pub FaultlessHasNone : Type 0
FaultlessHasNone = (items : List ItemText) (u : UnitName) (i : ℕ) (k : FaultKind) → IsFaultless items → ¬ IsFirstFault items u i k

-- What a text reads as has one, or no instruction of it has a fault.
abbrev pub FaultlessOrFaulty : Type 0
FaultlessOrFaulty = (text : List ℕ) (items : List ItemText) → Reads text items → IsFaultless items ⊎ ((u : UnitName) × (i : ℕ) × (k : FaultKind) × IsFirstFault items u i k)
