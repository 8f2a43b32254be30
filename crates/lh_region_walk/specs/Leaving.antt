-- A place is left: control leads on from it to other places, or the region ends there.
use Rattle.std.specs.Prelude.{◌≡◌, ◌⊎◌, ℕ, ◌+◌, ◌<◌, List, length, map, Bool, true, nat_eq, Option, Some, IsSome}
use Rattle.lh_unit.specs.Naming.{Naming}
use Rattle.lh_unit.specs.Within.{Each}
use Rattle.lh_unit.specs.declared.inst.ValueId.{ValueId}
use Rattle.lh_term.specs.Tree.{Tree}
use Rattle.lh_term.specs.Arena.{StandsForTree}
use Rattle.lh_term.specs.declared.term.TermId.{TermId}
use Rattle.lh_term.specs.declared.term.TermNode.{TermNode}
use Rattle.lh_term.specs.declared.part.Part.{Part}
use Rattle.lh_flat_parts.specs.Steps.{part_at}
use Rattle.lh_region_def.specs.Rows as text
use Rattle.lh_region_def.specs.Places.{Here, Midst, block_number, ends, leads, branches}
use Rattle.lh_region_def.specs.Regions.{turns_too_often}
use Rattle.lh_region_joins.specs.declared.edge.Edge.{Edge}
use Rattle.lh_region.specs.declared.ahead.Ahead.{Ahead}
use Rattle.lh_region_walk.specs.declared.walk.Region.{Region}
use Rattle.lh_region_walk.specs.declared.walk.Walk.{Walk}
use Rattle.lh_region_walk.specs.declared.walk.WalkPoint.{WalkPoint}
use Rattle.lh_region.specs.declared.rows.RegionFault.{RegionFault}
use Rattle.lh_region.specs.declared.rows.RegionFault.TheVariants as fault
use Rattle.lh_region.specs.Walking.{Story, TellsKnown, place_of}
use Rattle.lh_region_walk.specs.Walked.{region_text, IsCourse, course_at}

-- labels are those of blocks
abbrev pub HasNumbers : Naming → Region → Type 0
HasNumbers f r = (k : ℕ) → k < length r.flat.now.blocks → block_number (f.label_name k) (region_text f r).blocks ≡ Some k

-- A place is being left: the story is that of all places, and of the last one it tells what is known there. Some of the edges and ends that lead from it may be there already.
pub record IsLeaving (ns : List TermNode) (f : Naming) (r : Region) (w : Walk) (at : WalkPoint) (s : Story) (h : Here) (insts : ℕ) (m : Midst) : Type 0 where
  pub course : IsCourse ns f r w at.turns (at.block + 1) s (course_at insts m)
  pub within : at.place < s.places
  pub of_text : at.block < length r.flat.now.blocks
  pub numbers : HasNumbers f r
  pub place : h.place ≡ place_of at.turns at.block
  pub label : h.label ≡ f.label_name at.block
  pub known : TellsKnown s at.place m.known

-- an edge from a place
abbrev pub edge_from : WalkPoint → TermId → Edge
edge_from at cond = record { from = at.place; block = at.block; cond = cond }

-- The region ends there in this way, as in the definition.
abbrev pub EndsThere : Walk → WalkPoint → TermId → text.Way → Walk → Type 0
EndsThere w at cond way q =
    (ns : List TermNode) (f : Naming) (r : Region) (s : Story) (h : Here) (insts : ℕ) (m : Midst) (c : Tree) → IsLeaving ns f r w at s h insts m → StandsForTree ns cond c
    → IsLeaving ns f r q at s h insts (ends h c m way)

-- an edge may lead to a block of this number
pub record CanLead (a : Ahead) (to : ℕ) : Type 0 where
  pub here : to < length a.here.items
  pub next : to < length a.next.items

-- Control leads on to a block, as in the definition.
abbrev pub LeadsThere : List TermNode → Region → Walk → WalkPoint → TermId → (to : ℕ) → Walk → Type 0
LeadsThere ns r w at cond to q =
    (f : Naming) (s : Story) (h : Here) (insts : ℕ) (m : Midst) (c : Tree) → IsLeaving ns f r w at s h insts m → StandsForTree ns cond c
    → IsLeaving ns f r q at s h insts (leads (region_text f r) h c (f.label_name to) m)

-- Where it does not, memory is wanting, or in the definition an edge leads to too many turns.
abbrev pub LeadsNot : List TermNode → Region → Walk → WalkPoint → TermId → (to : ℕ) → RegionFault → Type 0
LeadsNot ns r w at cond to e =
    (e ≡ fault.OutOfMemory) ⊎
    ((e ≡ fault.TooManyTurns) ×
    ((f : Naming) (s : Story) (h : Here) (insts : ℕ) (m : Midst) (c : Tree) → IsLeaving ns f r w at s h insts m → StandsForTree ns cond c
    → turns_too_often (leads (region_text f r) h c (f.label_name to) m).edges ≡ true))

-- Control leads to one block or the other, as in the definition.
abbrev pub Branches : List TermNode → Region → Walk → WalkPoint → (v first second : ℕ) → List TermNode → Walk → Type 0
Branches ns r w at v first second ms q =
    (f : Naming) (s : Story) (h : Here) (insts : ℕ) (m : Midst) (x : Tree) → IsLeaving ns f r w at s h insts m → StandsForTree ns at.cond h.cond → s.told at.place v ≡ Some x →
    IsLeaving ms f r q at s h insts (branches (region_text f r) h (Some x) (f.label_name first) (f.label_name second) m)

abbrev pub BranchesNot : List TermNode → Region → Walk → WalkPoint → (v first second : ℕ) → RegionFault → Type 0
BranchesNot ns r w at v first second e =
    (e ≡ fault.OutOfMemory) ⊎
    ((e ≡ fault.TooManyTurns) ×
    ((f : Naming) (s : Story) (h : Here) (insts : ℕ) (m : Midst) (x : Tree) → IsLeaving ns f r w at s h insts m → StandsForTree ns at.cond h.cond → s.told at.place v ≡ Some x →
    turns_too_often (branches (region_text f r) h (Some x) (f.label_name first) (f.label_name second) m).edges ≡ true))

-- each of these values is a part
abbrev pub AreParts : List (Option Part) → List ValueId → Type 0
AreParts parts vs = Each (λ (v : ValueId). (v.0 < length parts) × IsSome (part_at parts v.0)) vs

-- the parts are those of the values
abbrev pub PartsOf : List (Option Part) → List ValueId → List Part → Type 0
PartsOf parts vs ps = map Some ps ≡ map (λ (v : ValueId). part_at parts v.0) vs

-- The region ends at a `wait` for a block on these values' parts.
abbrev pub Waits : Region → Walk → WalkPoint → (to : ℕ) → (timed : Bool) → List ValueId → Walk → Type 0
Waits r w at to timed vs q = (ps : List Part) → PartsOf r.parts.now.parts.items vs ps → EndsThere w at at.cond (text.waits to (nat_eq to r.head) ps timed) q
