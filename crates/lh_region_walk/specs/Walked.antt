-- A walk through the places of a region by ids beside the walk of the definition: in the middle of a place, and between places.
use Rattle.std.specs.Prelude.{◌≡◌, ◌⊎◌, ℕ, ◌+◌, ◌≤◌, List, [], ◌∷◌, ◌++◌, length, Bool, true, false, Option, Some, None, slice_get}
use Rattle.lh_unit_names.specs.declared.name.UnitName.{UnitName}
use Rattle.lh_unit.specs.Contents.{LineText, UnitText}
use Rattle.lh_unit.specs.Naming.{Naming}
use Rattle.lh_unit.specs.Within.{Each}
use Rattle.lh_unit.specs.declared.inst.Inst.{Inst}
use Rattle.lh_unit.specs.declared.inst.Inst.TheVariants as inst
use Rattle.lh_flat.specs.declared.flat.Flat.{Flat}
use Rattle.lh_flat.specs.declared.flat.FlatInst.{FlatInst}
use Rattle.lh_flat.specs.declared.flat.FlatBlock.{FlatBlock}
use Rattle.lh_flat.specs.Flat.{FlatBlockText, flat_unit, with_merge, as_block}
use Rattle.lh_flat.specs.Below.{IdsBelow, InstBelow}
use Rattle.lh_flat.specs.Reads.{flat_line_text, flat_block_text, flat_text}
use Rattle.lh_term.specs.Arena.{StandsForTree}
use Rattle.lh_term.specs.declared.term.TermNode.{TermNode}
use Rattle.lh_flat_parts.specs.Steps.{IsPartTable}
use Rattle.lh_region_def.specs.Known.{Knowledge}
use Rattle.lh_region_def.specs.Joins.{RegionEdge, joined}
use Rattle.lh_region_def.specs.Places.{Region as RegionText, Here, Midst, takes}
use Rattle.lh_region_def.specs.Regions.{RegionRefusal, Course, Coursed, stops, comes_to, max_turns, turns_too_often, through_block}
use Rattle.lh_region_def.specs.Typed.{KnowsTyped, KnowsThere, IsCondition, JoinEdge}
use Rattle.lh_region_def.specs.Right.{PhisGiven}
use Rattle.lh_region_walk.specs.declared.walk.Region.{Region}
use Rattle.lh_region_walk.specs.declared.walk.Walk.{Walk}
use Rattle.lh_region_walk.specs.declared.walk.WalkPoint.{WalkPoint}
use Rattle.lh_region.specs.declared.rows.RegionFault.{RegionFault}
use Rattle.lh_region.specs.declared.rows.RegionFault.TheVariants as fault
use Rattle.lh_region_places.specs.Asked.{edges_at, Tells}
use Rattle.lh_region.specs.Begins.{StaysKnown}
use Rattle.lh_region.specs.Effects.{probed}
use Rattle.lh_region.specs.Forms.{Names}
use Rattle.lh_region.specs.Heads.{head_in, begins_with_phi}
use Rattle.lh_region.specs.Stands.{AreRows, refusal_of}
use Rattle.lh_region.specs.Walking.{Story, TellsKnown, AreEdges, place_of, AreAhead, AreSources}

-- ---- a region

-- the process that a flat text is by some names; its own name says nothing here
abbrev pub process_by : UnitName → Naming → Flat → UnitText
process_by name f t = flat_unit name (flat_text f t)

-- the region by ids, with names in place of ids
abbrev pub region_text : Naming → Region → RegionText
region_text f r = record { blocks = (flat_text f r.flat.now).blocks; head = r.head; probe = probed r.is_past; ends_at_head = r.ends_at_head }

-- a region of a flat text that is formed by these names, whose ids are within its numbers, with its parts and its head, which begins with no `phi`
pub record IsRegion (f : Naming) (r : Region) : Type 0 where
  pub names : Names r.flat.now f
  pub below : IdsBelow r.flat.now
  pub table : IsPartTable r.flat.now r.parts.now
  pub head : r.head ≡ head_in r.flat.now.blocks
  pub plain : (b : FlatBlock) → slice_get r.flat.now.blocks r.head ≡ Some b → begins_with_phi b ≡ false

-- ---- between places

-- the story goes on: of the same names, values and blocks, and at the places so far the same is known
pub record ContinuesStory (s r : Story) : Type 0 where
  pub naming : r.naming ≡ s.naming
  pub values : r.values ≡ s.values
  pub blocks : r.blocks ≡ s.blocks
  pub places : s.places ≤ r.places
  pub known : StaysKnown s r

-- The edges ahead and the rows of a walk are those of the definition's course, before the place of this turn and block, by a story of places so far.
pub record IsSoFar (ns : List TermNode) (f : Naming) (r : Region) (w : Walk) (turns block : ℕ) (s : Story) (c : Course) : Type 0 where
  pub naming : s.naming ≡ f
  pub values : s.values ≡ r.flat.now.values
  pub blocks : s.blocks ≡ length r.flat.now.blocks
  pub here_long : length w.ahead.here.items ≡ length r.flat.now.blocks
  pub next_long : length w.ahead.next.items ≡ length r.flat.now.blocks
  pub ahead : AreAhead ns s turns block w.ahead c.edges
  pub few : turns_too_often c.edges ≡ false
  pub insts : w.insts ≡ c.insts
  pub rows : AreRows ns w.rows c.rows
  pub sources : AreSources ns s w.sources c.rows.ends

-- So they are between two places, where the story is that of all places.
pub record IsCourse (ns : List TermNode) (f : Naming) (r : Region) (w : Walk) (turns block : ℕ) (s : Story) (c : Course) : Type 0 where
  pub so_far : IsSoFar ns f r w turns block s c
  pub places : s.places ≡ length w.places.items
  pub tells : Tells ns w.places.items s.told

-- ---- in the middle of a place

-- the place stands at this block, after this many turns
pub record IsAt (f : Naming) (r : Region) (at : WalkPoint) (h : Here) (b : FlatBlock) : Type 0 where
  pub block : slice_get r.flat.now.blocks at.block ≡ Some b
  pub place : h.place ≡ place_of at.turns at.block
  pub label : h.label ≡ f.label_name at.block
  pub turns : at.turns ≤ max_turns

abbrev pub course_at : (insts : ℕ) → Midst → Course
course_at n m = record { insts = n; edges = m.edges; rows = m.rows }

-- In the middle of a place, the last one, the edges and ends so far are from places before it, of which one story tells; and by another, which goes on from that, what is told at it is known.
pub record IsMidst (ns : List TermNode) (f : Naming) (r : Region) (w : Walk) (at : WalkPoint) (before : Story) (h : Here) (insts : ℕ) (m : Midst) : Type 0 where
  pub so_far : IsSoFar ns f r w at.turns (at.block + 1) before (course_at insts m)
  pub now : Story
  pub continues : ContinuesStory before now
  pub was : before.places ≡ at.place
  pub is : now.places ≡ at.place + 1
  pub places : now.places ≡ length w.places.items
  pub tells : Tells ns w.places.items now.told
  pub known : TellsKnown now at.place m.known
  pub cond : StandsForTree ns at.cond h.cond
  pub condition : IsCondition h.cond

-- the lines of a block of which some were taken: what is known is typed, and what the others ask for is known
pub record KnowsFor (u : UnitText) (b : FlatBlockText) (done rest : List LineText) (k : Knowledge) : Type 0 where
  pub split : with_merge b.merge b.lines ≡ done ++ rest
  pub typed : KnowsTyped u k
  pub there : KnowsThere u (as_block b) done k
  pub phis : PhisGiven k rest

-- in the middle of a place, between two lines of its block
pub record IsBetween (ns : List TermNode) (f : Naming) (name : UnitName) (r : Region) (w : Walk) (at : WalkPoint) (before : Story) (h : Here) (insts : ℕ) (b : FlatBlock) (done rest : List LineText)
    (m : Midst) : Type 0 where
  pub region : IsRegion f r
  pub stands : IsAt f r at h b
  pub midst : IsMidst ns f r w at before h insts m
  pub knows : KnowsFor (process_by name f r.flat.now) (flat_block_text f at.block b) done rest m.known

-- ---- an instruction

-- control goes on to the next line
abbrev pub leads_nowhere : Inst → Bool
leads_nowhere (inst.Br to) = false
leads_nowhere (inst.Branch cond zero one) = false
leads_nowhere (inst.Wait to after signals) = false
leads_nowhere inst.Halt = false
leads_nowhere (inst.Ret value) = false
leads_nowhere _ = true

-- some midst of a place, before this line of its block
pub record CanTake (ns : List TermNode) (r : Region) (w : Walk) (at : WalkPoint) (l : FlatInst) : Type 0 where
  pub naming : Naming
  pub name : UnitName
  pub before : Story
  pub here : Here
  pub insts : ℕ
  pub block : FlatBlock
  pub done : List LineText
  pub rest : List LineText
  pub midst : Midst
  pub below : InstBelow r.flat.now.values (length r.flat.now.blocks) l
  pub between : IsBetween ns naming name r w at before here insts block done (flat_line_text naming l ∷ rest) midst

-- what the definition comes to by a line
abbrev pub takes_line : Naming → Region → Here → FlatInst → Midst → Midst
takes_line f r h l m = takes (region_text f r) h (flat_line_text f l).inst (flat_line_text f l).result m

-- What a line that is no terminator does is what it does in the definition.
abbrev pub WalksLine : List TermNode → Region → Walk → WalkPoint → FlatInst → List TermNode → Walk → Type 0
WalksLine ns r w at l ms q =
    (f : Naming) (name : UnitName) (before : Story) (h : Here) (insts : ℕ) (b : FlatBlock) (done rest : List LineText) (m : Midst)
    → IsBetween ns f name r w at before h insts b done (flat_line_text f l ∷ rest) m →
    IsBetween ms f name r q at before h insts b (done ++ flat_line_text f l ∷ []) rest (takes_line f r h l m)

-- So is what a terminator does: the place was treated.
abbrev pub EndsLine : List TermNode → Region → Walk → WalkPoint → FlatInst → List TermNode → Walk → Type 0
EndsLine ns r w at l ms q =
    (f : Naming) (name : UnitName) (before : Story) (h : Here) (insts : ℕ) (b : FlatBlock) (done rest : List LineText) (m : Midst)
    → IsBetween ns f name r w at before h insts b done (flat_line_text f l ∷ rest) m →
    (s : Story) × IsCourse ms f r q at.turns (at.block + 1) s (course_at insts (takes_line f r h l m))

-- A fault of a terminator has its cause: running out of memory, or an edge that leads to too many turns.
abbrev pub EndsFor : List TermNode → Region → Walk → WalkPoint → FlatInst → RegionFault → Type 0
EndsFor ns r w at l e =
    (e ≡ fault.OutOfMemory) ⊎
    ((e ≡ fault.TooManyTurns) ×
    ((f : Naming) (name : UnitName) (before : Story) (h : Here) (insts : ℕ) (b : FlatBlock) (done rest : List LineText) (m : Midst)
    → IsBetween ns f name r w at before h insts b done (flat_line_text f l ∷ rest) m →
    turns_too_often (takes_line f r h l m).edges ≡ true))

-- ---- a place

-- the definition stops for this reason; of running out of memory nothing is said
abbrev pub StopsFor : Coursed → Option RegionRefusal → Type 0
StopsFor x None = Unit {0}
StopsFor x (Some r) = x ≡ stops r

-- A place has begun: what its edges join is known there. Where its block begins with no `phi`, nothing is asked of the edges by ids.
pub record IsOpened (ns : List TermNode) (f : Naming) (name : UnitName) (r : Region) (w : Walk) (at : WalkPoint) (before : Story) (h : Here) (b : FlatBlock) (x : RegionEdge) (xs : List RegionEdge)
    (c : Course) : Type 0 where
  pub region : IsRegion f r
  pub stands : IsAt f r at h b
  pub midst : IsMidst ns f r w at before h c.insts (record { known = joined (x ∷ xs); edges = c.edges; rows = c.rows })
  pub edges : (begins_with_phi b ≡ false) ⊎ AreEdges ns before (edges_at w.places.items at.place) (x ∷ xs)
  pub join : Each (JoinEdge (process_by name f r.flat.now) (as_block (flat_block_text f at.block b))) (x ∷ xs)

pub record CanTreat (ns : List TermNode) (r : Region) (w : Walk) (at : WalkPoint) : Type 0 where
  pub naming : Naming
  pub name : UnitName
  pub before : Story
  pub here : Here
  pub block : FlatBlock
  pub first : RegionEdge
  pub more : List RegionEdge
  pub course : Course
  pub opened : IsOpened ns naming name r w at before here block first more course

-- what the definition comes to by a place
abbrev pub treated : Naming → Region → WalkPoint → Here → FlatBlock → List RegionEdge → Course → Coursed
treated f r at h b es c = through_block (region_text f r) h.place h.cond es c (flat_block_text f at.block b)

-- The place is treated as in the definition.
abbrev pub Treats : List TermNode → Region → Walk → WalkPoint → List TermNode → Walk → Type 0
Treats ns r w at ms q =
    (f : Naming) (name : UnitName) (before : Story) (h : Here) (b : FlatBlock) (x : RegionEdge) (xs : List RegionEdge) (c : Course) → IsOpened ns f name r w at before h b x xs c →
    (s : Story) × (d : Course) × (treated f r at h b (x ∷ xs) c ≡ comes_to d) × IsCourse ms f r q at.turns (at.block + 1) s d

-- Where it is not, the definition stops for that reason.
abbrev pub TreatsNot : List TermNode → Region → Walk → WalkPoint → RegionFault → Type 0
TreatsNot ns r w at e =
    (f : Naming) (name : UnitName) (before : Story) (h : Here) (b : FlatBlock) (x : RegionEdge) (xs : List RegionEdge) (c : Course) → IsOpened ns f name r w at before h b x xs c →
    StopsFor (treated f r at h b (x ∷ xs) c) (refusal_of e)
