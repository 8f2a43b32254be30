-- The rows of an entity: its drives and its registers, as terms of the values of parts.
use Rattle.std.specs.Prelude.{List, [], ◌∷◌}
use Rattle.lh_unit.specs.declared.inst.Mode.{Mode}
use Rattle.lh_term.specs.Tree.{Tree}
use Rattle.lh_term.specs.declared.part.Part.{Part}
use Rattle.lh_region_def.specs.Rows.{Drive}

-- a trigger of a register: what it looks for in the value of which term, where the gate is 1, and what it drives after which delay
pub record TriggerRow : Type 0 where
  pub mode : Mode
  pub operand : Tree
  pub gate : Tree
  pub value : Tree
  pub delay : Tree

-- a drive, or a register: a part with its triggers
pub data EntityRow : Type 0 where
  driven_by : Drive → EntityRow
  registered : Part → List TriggerRow → EntityRow

-- the drives among rows, in order
abbrev pub drives_in : List EntityRow → List Drive
drives_in [] = []
drives_in (driven_by d ∷ more) = d ∷ drives_in more
drives_in (registered p gs ∷ more) = drives_in more

-- the registers among rows, in order
abbrev pub registers_in : List EntityRow → List (Part × List TriggerRow)
registers_in [] = []
registers_in (driven_by d ∷ more) = registers_in more
registers_in (registered p gs ∷ more) = (p, gs) ∷ registers_in more
