-- The flat text of a process of a well-formed module is formed.
use Rattle.std.specs.Prelude.{◌≡◌, ◌<◌, ℕ, Some}
use Rattle.lh_unit_names.specs.declared.name.UnitName.{UnitName}
use Rattle.lh_unit.specs.declared.inst.UnitKind.TheVariants as kind
use Rattle.lh_unit.specs.Arena.{Arena, IsArena, contents, unit_count, kind_at, unit_text_at}
use Rattle.lh_unit.specs.WellFormed.{IsWellFormed}
use Rattle.lh_flat.specs.Flat.{FlatText, flattened, flat_of, flat_unit}
use Rattle.lh_flat.specs.Marks.{UnitsAreNamed}
use Rattle.lh_flat_laws.specs.Formed.{IsFormed}

-- Read as a process it has its rows and its types, on each path an operand is given before it is named, and each of its names stands once.
abbrev pub FlatTextsAreFormed : Type 0
FlatTextsAreFormed = (a : Arena) (u : ℕ) (name : UnitName) (text : FlatText) → IsArena a → IsWellFormed (contents a) → UnitsAreNamed a → u < unit_count a → kind_at a u ≡ Some kind.Proc →
    flat_of (contents a) (unit_text_at a u) ≡ flattened text → IsFormed (flat_unit name text)
