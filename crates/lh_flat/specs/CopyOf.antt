-- A copy of a unit, and what it is made of.
use Rattle.std.specs.Prelude.{◌≡◌}
use Rattle.lh_unit.specs.Arena.{Arena}
use Rattle.lh_unit.specs.declared.inst.UnitId.{UnitId}
use Rattle.lh_flat.specs.declared.rename.Renaming.{Renaming}
use Rattle.lh_flat.specs.declared.copy.UnitCopy.{UnitCopy}

-- a copy of the unit u of a module, with these ids
pub record IsCopy (a : Arena) (u : UnitId) (r : Renaming) (c : UnitCopy) : Type 0 where
  pub of : c.view.module.now ≡ a
  pub unit : c.view.unit ≡ u
  pub ids : c.ids ≡ r
