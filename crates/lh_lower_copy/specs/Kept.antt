-- A unit that is added as it is in another module.
use Rattle.std.specs.Prelude.{◌≡◌, ℕ, ◌<◌, Option, Some, None, slice_get}
use Rattle.lh_types.specs.Types.{TypeTree}
use Rattle.lh_unit.specs.declared.inst.BlockId.{BlockId}
use Rattle.lh_unit.specs.declared.inst.UnitKind.TheVariants as kind
use Rattle.lh_unit.specs.Contents.{BlockText, UnitText}
use Rattle.lh_unit.specs.Naming.{block_text}
use Rattle.lh_unit.specs.Arena.{Arena, naming, table_at, blocks_at, block_count}

-- a block of the unit u
pub record StandsIn (a : Arena) (u : ℕ) (b : BlockId) : Type 0 where
  pub place : ℕ
  pub is : slice_get (blocks_at a u) place ≡ Some b
  pub within : b.0 < block_count a u

-- its text
abbrev pub block_at : Arena → ℕ → BlockId → BlockText
block_at a u b = block_text (naming a u) (table_at a u) b

-- only a function is given a result type
abbrev pub TypeFits : UnitText → Option TypeTree → Type 0
TypeFits t None = Unit {0}
TypeFits t (Some ty) = t.kind ≡ kind.Func
