-- The units of a module as a graph, by their ids: how long each is, and the functions that it calls.
use Rattle.std.specs.Prelude.{◌≡◌, ℕ, ◌+◌, ◌<◌, min, List, [], ◌∷◌, ◌++◌, length, slice_index_or, if◌then◌else◌, Option, Some, None}
use Rattle.lh_unit_names.specs.UnitNames.{is_assert}
use Rattle.lh_unit.specs.Table.{line_at, insts_at}
use Rattle.lh_unit.specs.Within.{Each}
use Rattle.lh_unit.specs.Arena.{Arena, table_at, blocks_at, block_count, block_insts_at, inst_count, unit_count, unit_name_at}
use Rattle.lh_unit.specs.declared.inst.UnitId.{UnitId}
use Rattle.lh_unit.specs.declared.inst.BlockId.{BlockId}
use Rattle.lh_unit.specs.declared.inst.InstId.{InstId}
use Rattle.lh_unit.specs.declared.inst.Inst.{Inst}
use Rattle.lh_unit.specs.declared.inst.Inst.TheVariants as inst
use Rattle.lh_flat.specs.declared.calls.CallNode.{CallNode}

-- a count saturates here
abbrev pub max_counted : ℕ
max_counted = 4294967295

abbrev pub counted : (count more : ℕ) → ℕ
counted count more = min (count + more) max_counted

-- a unit without blocks
abbrev pub no_node : CallNode
no_node = record { insts = 0; blocks = 0; callees = [] }

-- a unit that is called, unless it is `@llhd.assert`
abbrev pub called_of : Arena → UnitId → Option UnitId
called_of a f = if is_assert (unit_name_at a f.0) then None else Some f

-- the function that an instruction calls
abbrev pub callee_of : Arena → Inst → Option UnitId
callee_of a (inst.Call f result args) = called_of a f
callee_of a _ = None

-- it has an entry, if there is one
abbrev pub CalleeWithin : Arena → Option UnitId → Type 0
CalleeWithin a None = Unit {0}
CalleeWithin a (Some f) = f.0 < unit_count a

-- a block of the unit u, and its instructions, have entries
pub record BlockPlaced (a : Arena) (u : ℕ) (b : BlockId) : Type 0 where
  pub within : b.0 < block_count a u
  pub insts : Each (λ (i : InstId). i.0 < inst_count a u) (block_insts_at a u b.0)

-- one more instruction; a call cuts its block, so there is one more piece
abbrev pub with_inst : CallNode → Option UnitId → CallNode
with_inst n None = record { insts = counted n.insts 1; blocks = n.blocks; callees = n.callees }
with_inst n (Some f) = record { insts = counted n.insts 1; blocks = counted n.blocks 1; callees = n.callees ++ f ∷ [] }

-- the instructions of a block, one after the other
abbrev pub with_insts : Arena → (u : ℕ) → CallNode → List InstId → CallNode
with_insts a u n [] = n
with_insts a u n (i ∷ more) = with_insts a u (with_inst n (callee_of a (line_at (table_at a u) i.0).inst)) more

-- one more block
abbrev pub with_block : Arena → (u : ℕ) → CallNode → BlockId → CallNode
with_block a u n b = with_insts a u (record { insts = n.insts; blocks = counted n.blocks 1; callees = n.callees }) (insts_at (table_at a u) b.0)

-- blocks, one after the other
abbrev pub with_blocks : Arena → (u : ℕ) → CallNode → List BlockId → CallNode
with_blocks a u n [] = n
with_blocks a u n (b ∷ more) = with_blocks a u (with_block a u n b) more

-- what is counted of the unit u
abbrev pub node_of : Arena → ℕ → CallNode
node_of a u = with_blocks a u no_node (blocks_at a u)

-- the unit u of a graph
abbrev pub node_at : List CallNode → ℕ → CallNode
node_at g u = slice_index_or g u no_node

-- the functions that the unit u calls
abbrev pub callees_at : List CallNode → ℕ → List UnitId
callees_at g u = (node_at g u).callees

-- the graph of a module
pub record IsGraph (a : Arena) (g : List CallNode) : Type 0 where
  pub long : length g ≡ unit_count a
  pub nodes : (u : ℕ) → u < unit_count a → node_at g u ≡ node_of a u
