-- Counts of the edges of a `phi`, by the ids of labels.
use Rattle.std.specs.Prelude.{◌≡◌, ℕ, ◌<◌, List, length, Bool, nat_eq, slice_index_or}
use Rattle.std.specs.List.{list_all}
use Rattle.lh_unit.specs.Within.{Each}
use Rattle.lh_unit.specs.declared.inst.BlockId.{BlockId}
use Rattle.lh_unit.specs.declared.inst.PhiEdge.{PhiEdge}
use Rattle.lh_unit.specs.declared.inst.Inst.{Inst}
use Rattle.lh_unit.specs.declared.inst.Inst.TheVariants as inst
use Rattle.lh_verify.specs.PhisById.{edges_naming}

-- by the ids of n labels, how many of these edges name the label
pub record CountsEdges (n : ℕ) (edges : List PhiEdge) (counts : List ℕ) : Type 0 where
  pub long : length counts ≡ n
  pub count : (b : BlockId) → slice_index_or counts b.0 0 ≡ edges_naming b edges

-- the edges of a `phi` name labels with an entry
abbrev pub EdgesWithin : ℕ → Inst → Type 0
EdgesWithin n (inst.Phi ty edges) = Each (λ (e : PhiEdge). e.block.0 < n) edges
EdgesWithin n i = Unit {0}

-- each of these blocks is named by one edge
abbrev pub all_named_once : List PhiEdge → List BlockId → Bool
all_named_once edges blocks = list_all (λ (b : BlockId). nat_eq (edges_naming b edges) 1) blocks
