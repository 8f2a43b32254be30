-- What is asked of a flat text by ids whose regions are asked for: by some names it is formed, as that of a process of a well-formed module is.
use Rattle.std.specs.Prelude.{◌≡◌, ◌<◌, ℕ, length}
use Rattle.lh_unit_names.specs.declared.name.UnitName.{UnitName}
use Rattle.lh_unit.specs.Naming.{Naming}
use Rattle.lh_flat.specs.declared.flat.Flat.{Flat}
use Rattle.lh_flat.specs.Flat.{flat_unit}
use Rattle.lh_flat.specs.Below.{IdsBelow}
use Rattle.lh_flat.specs.Reads.{flat_text}
use Rattle.lh_flat_laws.specs.Formed.{IsFormed}

-- names for the ids of a flat text, no two of which are alike, by which it is formed
pub record Names (t : Flat) (f : Naming) : Type 0 where
  pub values : (v w : ℕ) → v < t.values → w < t.values → f.value_name v ≡ f.value_name w → v ≡ w
  pub labels : (j k : ℕ) → j < length t.blocks → k < length t.blocks → f.label_name j ≡ f.label_name k → j ≡ k
  pub formed : (name : UnitName) → IsFormed (flat_unit name (flat_text f t))

-- there are such names, and every id is within the text's numbers
pub record HasForm (t : Flat) : Type 0 where
  pub below : IdsBelow t
  pub naming : Naming
  pub names : Names t naming
