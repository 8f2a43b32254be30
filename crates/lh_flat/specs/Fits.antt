-- New ids for all values and labels of a unit.
use Rattle.std.specs.Prelude.{◌≡◌, ℕ, length}
use Rattle.lh_unit.specs.Arena.{Arena, value_count, label_count}
use Rattle.lh_flat.specs.declared.rename.Renaming.{Renaming}

-- each value and each label of the unit u has a new id
pub record IdsFit (a : Arena) (u : ℕ) (r : Renaming) : Type 0 where
  pub values : length r.values ≡ value_count a u
  pub labels : length r.spans ≡ label_count a u
