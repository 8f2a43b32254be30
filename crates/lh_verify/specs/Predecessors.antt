-- The blocks that have an edge to a label.
use Rattle.std.specs.Prelude.{◌≡◌, ℕ, List, [], ◌∷◌, ◌++◌, length, filter, if◌then◌else◌, slice_index_or}
use Rattle.lh_unit.specs.Table.{Table, is_block}
use Rattle.lh_unit.specs.ById.{successors}
use Rattle.lh_unit.specs.declared.inst.BlockId.{BlockId}

-- those of these blocks that have an edge to the label of this id, in their order
abbrev pub predecessors_in : Table → List BlockId → (to : ℕ) → List BlockId
predecessors_in t blocks to = filter (λ (b : BlockId). is_block (successors t b) to) blocks

-- by the ids of n labels, those of these blocks that have an edge to the label; none to any other id
pub record IsPredecessors (t : Table) (blocks : List BlockId) (n : ℕ) (rows : List (List BlockId)) : Type 0 where
  pub long : length rows ≡ n
  pub row : (to : ℕ) → slice_index_or rows to [] ≡ predecessors_in t blocks to

-- a block stands once more at the end of the list of each label to which it has an edge
pub record AddsPredecessor (b : BlockId) (leads : List BlockId) (old new : List (List BlockId)) : Type 0 where
  pub long : length new ≡ length old
  pub row : (to : ℕ) → slice_index_or new to [] ≡ slice_index_or old to [] ++ (if is_block leads to then b ∷ [] else [])
