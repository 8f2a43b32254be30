-- Which functions a unit reaches by calls, and how the definition of flat texts finds that one of them reaches itself.
use Rattle.std.specs.Prelude.{◌≡◌, suc, List, [], length, Option, Some, None}
use Rattle.lh_unit_names.specs.declared.name.UnitName.{UnitName}
use Rattle.lh_unit.specs.Contents.{UnitText}
use Rattle.lh_flat.specs.Calls.{callees, callees_of, recursion_from}
use Rattle.lh_flat.specs.Flat.{refused, recursive_call, flat_in}
use Rattle.lh_flat_laws.specs.Members.{Among}

-- who makes these calls reaches a function: it is called, or one that is called reaches it
pub data Reaches (functions : List UnitText) : (calls : List UnitName) → UnitName → Type 0 where
  called : (calls : List UnitName) (f : UnitName) → Among f calls → Reaches functions calls f
  through : (calls : List UnitName) (g f : UnitName) → Among g calls → Reaches functions (callees_of functions g) f → Reaches functions calls f

-- a function that the unit reaches by calls reaches itself
pub record IsRecursion (functions : List UnitText) (u : UnitText) (f : UnitName) : Type 0 where
  pub reached : Reaches functions (callees u) f
  pub itself : Reaches functions (callees_of functions f) f

-- The search finds a function that the unit reaches and that reaches itself; it finds none only where there is none. So it has steps enough.
abbrev pub FindsRecursion : List UnitText → UnitText → Option UnitName → Type 0
FindsRecursion functions u (Some f) = IsRecursion functions u f
FindsRecursion functions u None = (f : UnitName) → IsRecursion functions u f → ⊥

abbrev pub RecursionIsFound : Type 0
RecursionIsFound = (functions : List UnitText) (u : UnitText) → FindsRecursion functions u (recursion_from (suc (length functions)) functions [] (callees u))

-- A unit has no flat text for a recursive call exactly where a function that it reaches reaches itself.
abbrev pub RecursionIsRefused : Type 0
RecursionIsRefused = (functions : List UnitText) (u : UnitText) →
    ((f : UnitName) → flat_in functions u ≡ refused (recursive_call f) → IsRecursion functions u f)
    × ((f : UnitName) → IsRecursion functions u f → (g : UnitName) × (flat_in functions u ≡ refused (recursive_call g)))
