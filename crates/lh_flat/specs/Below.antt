-- Every id of a flat text is within its numbers.
use Rattle.std.specs.Prelude.{ℕ, ◌<◌, List, length, Option, Some, None}
use Rattle.lh_unit.specs.ById.{maybe_id, values_used, blocks_named}
use Rattle.lh_unit.specs.Within.{Each}
use Rattle.lh_unit.specs.declared.inst.BlockId.{BlockId}
use Rattle.lh_unit.specs.declared.inst.ValueId.{ValueId}
use Rattle.lh_unit.specs.declared.inst.Arg.{Arg}
use Rattle.lh_flat.specs.declared.flat.MergeEdge.{MergeEdge}
use Rattle.lh_flat.specs.declared.flat.Merge.{Merge}
use Rattle.lh_flat.specs.declared.flat.FlatInst.{FlatInst}
use Rattle.lh_flat.specs.declared.flat.FlatBlock.{FlatBlock}
use Rattle.lh_flat.specs.declared.flat.Flat.{Flat}

abbrev pub ValuesBelow : ℕ → List ValueId → Type 0
ValuesBelow n vs = Each (λ (v : ValueId). v.0 < n) vs

-- the value that an instruction gives, those that it uses, and the blocks that it names
pub record InstBelow (values blocks : ℕ) (i : FlatInst) : Type 0 where
  pub result : ValuesBelow values (maybe_id i.result)
  pub used : ValuesBelow values (values_used i.inst)
  pub named : Each (λ (b : BlockId). b.0 < blocks) (blocks_named i.inst)

pub record EdgeBelow (values blocks : ℕ) (e : MergeEdge) : Type 0 where
  pub value : e.value.0 < values
  pub block : e.block.0 < blocks

pub record MergeBelow (values blocks : ℕ) (m : Merge) : Type 0 where
  pub value : m.value.0 < values
  pub edges : Each (EdgeBelow values blocks) m.edges

-- the merge of a block, if there is one
abbrev pub MaybeBelow : (values blocks : ℕ) → Option Merge → Type 0
MaybeBelow values blocks None = Unit {0}
MaybeBelow values blocks (Some m) = MergeBelow values blocks m

pub record BlockBelow (values blocks : ℕ) (b : FlatBlock) : Type 0 where
  pub merge : MaybeBelow values blocks b.merge
  pub insts : Each (InstBelow values blocks) b.insts

-- Each value of a flat text is below its number of values, and each block that is named stands in it.
pub record IdsBelow (t : Flat) : Type 0 where
  pub args : Each (λ (a : Arg). a.value.0 < t.values) t.args
  pub blocks : Each (BlockBelow t.values (length t.blocks)) t.blocks
