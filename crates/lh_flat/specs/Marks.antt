-- Marks in the names of a flat text: no byte, so that no name of a file has one.
use Rattle.std.specs.Prelude.{◌≡◌, ℕ, ◌<◌, suc, nat_lt, List, [], ◌∷◌, if◌then◌else◌}
use Rattle.lh_unit_names.specs.Names.{IsName}
use Rattle.lh_unit.specs.Arena.{Arena, unit_count, value_count, label_count, value_name_at, label_name_at}

-- how many marks stand in a name; a mark is no byte
abbrev pub marks : List ℕ → ℕ
marks [] = 0
marks (c ∷ more) = if nat_lt c 256 then marks more else suc (marks more)

-- a name of bytes alone
abbrev pub IsPlain : List ℕ → Type 0
IsPlain n = marks n ≡ 0

-- the names of the values and labels of the unit u are names
pub record UnitIsNamed (a : Arena) (u : ℕ) : Type 0 where
  pub values : (v : ℕ) → v < value_count a u → IsName (value_name_at a u v)
  pub labels : (b : ℕ) → b < label_count a u → IsName (label_name_at a u b)

-- those of each unit
abbrev pub UnitsAreNamed : Arena → Type 0
UnitsAreNamed a = (u : ℕ) → u < unit_count a → UnitIsNamed a u
