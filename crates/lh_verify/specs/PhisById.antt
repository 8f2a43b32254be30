-- The rule of a `phi` by ids.
use Rattle.std.specs.Prelude.{ℕ, List, Bool, false, not, ◌||◌, nat_eq, count_by}
use Rattle.std.specs.List.{list_all}
use Rattle.lh_unit.specs.Table.{Table, is_block, line_at}
use Rattle.lh_unit.specs.ById.{successors}
use Rattle.lh_unit.specs.declared.inst.BlockId.{BlockId}
use Rattle.lh_unit.specs.declared.inst.PhiEdge.{PhiEdge}
use Rattle.lh_unit.specs.declared.inst.Inst.{Inst}
use Rattle.lh_unit.specs.declared.inst.Inst.TheVariants as inst
use Rattle.lh_verify.specs.declared.spots.Spot.{Spot}

-- how many edges of a `phi` name this block
abbrev pub edges_naming : BlockId → List PhiEdge → ℕ
edges_naming b edges = count_by (λ (e : PhiEdge). nat_eq e.block.0 b.0) edges

-- a block is no predecessor, or is named once
abbrev pub named_once : Table → (to : BlockId) → List PhiEdge → BlockId → Bool
named_once t to edges b = not (is_block (successors t b) to.0) || nat_eq (edges_naming b edges) 1

-- each predecessor is named once
abbrev pub names_predecessors : Table → (to : BlockId) → List PhiEdge → List BlockId → Bool
names_predecessors t to edges blocks = list_all (named_once t to edges) blocks

-- a `phi` stands after another kind of instruction, or in the entry block, or does not name each predecessor once
abbrev pub phi_is_wrong : Table → Spot → Inst → Bool
phi_is_wrong t s (inst.Phi ty edges) = (s.after_other || s.in_entry) || not (names_predecessors t s.block edges t.blocks)
phi_is_wrong t s _ = false

-- the instruction at a place is such a `phi`
abbrev pub wrong_phi_at : Table → Spot → Bool
wrong_phi_at t s = phi_is_wrong t s (line_at t s.inst.0).inst
