-- What is in place in a unit.
use Rattle.std.specs.Prelude.{ℕ, ◌<◌, Option, Some, None}
use Rattle.lh_unit.specs.Arena.{Arena, unit_count, label_count, block_count, inst_count, kind_at, block_insts_at}
use Rattle.lh_unit.specs.Within.{Each}
use Rattle.lh_unit.specs.declared.inst.UnitKind.{UnitKind}
use Rattle.lh_unit.specs.declared.inst.UnitKind.TheVariants as kind
use Rattle.lh_unit.specs.declared.inst.BlockId.{BlockId}
use Rattle.lh_unit.specs.declared.inst.InstId.{InstId}
use Rattle.lh_unit.specs.declared.inst.Item.{Item}
use Rattle.lh_unit.specs.declared.inst.Item.TheVariants as item

-- an instruction of the unit u
abbrev pub IsInstOf : Arena → ℕ → InstId → Type 0
IsInstOf a u i = i.0 < inst_count a u

-- a label with an entry; an entity's block has none
abbrev pub IsLabelled : Arena → ℕ → Option UnitKind → BlockId → Type 0
IsLabelled a u (Some kind.Entity) b = Unit {0}
IsLabelled a u (Some kind.Func) b = b.0 < label_count a u
IsLabelled a u (Some kind.Proc) b = b.0 < label_count a u
IsLabelled a u None b = b.0 < label_count a u

-- a block of the unit u, with its label and its instructions in place
pub record IsBlockOf (a : Arena) (u : ℕ) (b : BlockId) : Type 0 where
  pub within : b.0 < block_count a u
  pub labelled : IsLabelled a u (kind_at a u) b
  pub insts : Each (IsInstOf a u) (block_insts_at a u b.0)

-- an item whose unit has an entry
abbrev pub IsItemOf : Arena → Item → Type 0
IsItemOf a (item.Unit u) = u.0 < unit_count a
IsItemOf a (item.Declare d) = Unit {0}
