-- The turns of a walk: the places of a turn are treated in the order of their blocks, and a region is gone through turn by turn.
use Rattle.std.specs.Prelude.{◌≡◌, ◌⊎◌, ℕ, ◌+◌, ◌<◌, List, [], ◌∷◌, length, map, true, false, Some, slice_get}
use Rattle.std.specs.List.{flat_map}
use Rattle.lh_unit_names.specs.declared.name.UnitName.{UnitName}
use Rattle.lh_unit.specs.Naming.{Naming}
use Rattle.lh_unit.specs.Within.{Each}
use Rattle.lh_flat.specs.declared.flat.FlatBlock.{FlatBlock}
use Rattle.lh_flat.specs.Reads.{flat_block_text}
use Rattle.lh_term.specs.Arena.{StandsForTree}
use Rattle.lh_term.specs.Make.{bit_of}
use Rattle.lh_term.specs.declared.term.TermNode.{TermNode}
use Rattle.lh_region_def.specs.Joins.{RegionPlace, RegionEdge, joined}
use Rattle.lh_region_def.specs.Places.{Here}
use Rattle.lh_region_def.specs.Regions.{Course, Coursed, comes_to, edges_to, through_all, numbers_below, all_places, region_from}
use Rattle.lh_region_def.specs.Typed.{JoinEdge}
use Rattle.lh_region_def.specs.Right.{CourseFine}
use Rattle.lh_flat.specs.Flat.{as_block}
use Rattle.lh_region_places.specs.declared.state.PlaceState.{PlaceState}
use Rattle.lh_region_walk.specs.declared.walk.Region.{Region}
use Rattle.lh_region_walk.specs.declared.walk.Walk.{Walk}
use Rattle.lh_region_walk.specs.declared.walk.WalkPoint.{WalkPoint}
use Rattle.lh_region.specs.declared.rows.RegionFault.{RegionFault}
use Rattle.lh_region_places.specs.Asked.{edges_at, Tells}
use Rattle.lh_region.specs.Heads.{begins_with_phi}
use Rattle.lh_region_walk.specs.Named.{EdgesNamed, CourseNamed}
use Rattle.lh_region.specs.Stands.{refusal_of}
use Rattle.lh_region.specs.Walking.{Story, TellsKnown, AreEdges, place_of}
use Rattle.lh_region_walk.specs.Walked.{process_by, region_text, IsRegion, ContinuesStory, IsCourse, StopsFor}

-- ---- places

-- the places of the first n blocks at a turn
abbrev pub places_of : (turns n : ℕ) → List RegionPlace
places_of t n = map (place_of t) (numbers_below n)

-- the places of the first k turns, where there are n blocks
abbrev pub turns_below : (n k : ℕ) → List RegionPlace
turns_below n k = flat_map (λ t. places_of t n) (numbers_below k)

-- ---- a walk between places

-- The walk is that of a course of the definition, all of which is right so far, before the place of this turn and block.
pub record IsWalk (ns : List TermNode) (f : Naming) (name : UnitName) (r : Region) (w : Walk) (turns block : ℕ) (s : Story) (c : Course) : Type 0 where
  pub region : IsRegion f r
  pub course : IsCourse ns f r w turns block s c
  pub fine : CourseFine (process_by name f r.flat.now) (region_text f r) c
  pub named : CourseNamed (process_by name f r.flat.now) c

-- It is so, and no edge leads to the places of this turn before that.
pub record IsTurn (ns : List TermNode) (f : Naming) (name : UnitName) (r : Region) (w : Walk) (turns block : ℕ) (s : Story) (c : Course) : Type 0 where
  pub walk : IsWalk ns f name r w turns block s c
  pub none : (b : ℕ) → b < block → edges_to (place_of turns b) c.edges ≡ []

-- some walk before a place
pub record CanWalk (ns : List TermNode) (r : Region) (w : Walk) (turns block : ℕ) : Type 0 where
  pub naming : Naming
  pub name : UnitName
  pub story : Story
  pub course : Course
  pub walk : IsWalk ns naming name r w turns block story course

-- the same, from which a turn begins
pub record CanTurn (ns : List TermNode) (r : Region) (w : Walk) (turns block : ℕ) : Type 0 where
  pub naming : Naming
  pub name : UnitName
  pub story : Story
  pub course : Course
  pub turn : IsTurn ns naming name r w turns block story course

-- The walk has come to where the definition comes.
abbrev pub Comes : List TermNode → Naming → UnitName → Region → Walk → (turns block : ℕ) → Coursed → Type 0
Comes ns f name r w turns block x = (s : Story) × (d : Course) × (x ≡ comes_to d) × IsWalk ns f name r w turns block s d

-- a walk by some names and a course of the definition
abbrev pub Beginning : Type 1
Beginning = Naming → UnitName → Story → Course → Type 0

-- From any such beginning the walk has come to where the definition comes by these places.
abbrev pub Passes : Beginning → Region → List RegionPlace → List TermNode → Walk → (turns block : ℕ) → Type 0
Passes From r ps ns w turns block = (f : Naming) (name : UnitName) (s : Story) (c : Course) → From f name s c → Comes ns f name r w turns block (through_all (region_text f r) ps c)

-- From any such beginning the definition stops at one of these places, for the reason that the fault tells.
abbrev pub Stops : Beginning → Region → List RegionPlace → RegionFault → Type 0
Stops From r ps e = (f : Naming) (name : UnitName) (s : Story) (c : Course) → From f name s c → StopsFor (through_all (region_text f r) ps c) (refusal_of e)

-- before a place, and before a turn
abbrev pub walks_at : List TermNode → Region → Walk → (turns block : ℕ) → Beginning
walks_at ns r w turns block = λ f name s c. IsWalk ns f name r w turns block s c

abbrev pub turns_at : List TermNode → Region → Walk → (turns block : ℕ) → Beginning
turns_at ns r w turns block = λ f name s c. IsTurn ns f name r w turns block s c

-- The walk has come to where the definition comes by all places; it stands before some turn.
abbrev pub PassesAll : Beginning → Region → List TermNode → Walk → Type 0
PassesAll From r ns w =
    (f : Naming) (name : UnitName) (s : Story) (c : Course) → From f name s c → (turns : ℕ) × Comes ns f name r w turns 0 (through_all (region_text f r) (all_places (length r.flat.now.blocks)) c)

-- ---- a region

-- where control is without condition, before any turn
abbrev pub start_here : Naming → WalkPoint → Here
start_here f at = record { place = place_of 0 at.block; label = f.label_name at.block; cond = bit_of true }

-- A region starts at the last of these places: what these edges join is told there, by a story that goes on from that of the places before it.
pub record IsStart (ns : List TermNode) (f : Naming) (name : UnitName) (r : Region) (ps : List PlaceState) (at : WalkPoint) (before now : Story) (b : FlatBlock) (x : RegionEdge)
    (xs : List RegionEdge) : Type 0 where
  pub region : IsRegion f r
  pub block : slice_get r.flat.now.blocks at.block ≡ Some b
  pub turns : at.turns ≡ 0
  pub naming : before.naming ≡ f
  pub values : before.values ≡ r.flat.now.values
  pub blocks : before.blocks ≡ length r.flat.now.blocks
  pub continues : ContinuesStory before now
  pub was : before.places ≡ at.place
  pub is : now.places ≡ at.place + 1
  pub places : now.places ≡ length ps
  pub tells : Tells ns ps now.told
  pub known : TellsKnown now at.place (joined (x ∷ xs))
  pub cond : StandsForTree ns at.cond (bit_of true)
  pub edges : (begins_with_phi b ≡ false) ⊎ AreEdges ns before (edges_at ps at.place) (x ∷ xs)
  pub join : Each (JoinEdge (process_by name f r.flat.now) (as_block (flat_block_text f at.block b))) (x ∷ xs)
  pub named : EdgesNamed (process_by name f r.flat.now) (x ∷ xs)

-- some region starts there
pub record CanStart (ns : List TermNode) (r : Region) (ps : List PlaceState) (at : WalkPoint) : Type 0 where
  pub naming : Naming
  pub name : UnitName
  pub before : Story
  pub now : Story
  pub block : FlatBlock
  pub first : RegionEdge
  pub more : List RegionEdge
  pub start : IsStart ns naming name r ps at before now block first more

-- The walk has gone through the region as the definition does.
abbrev pub GoesThrough : List TermNode → Region → List PlaceState → WalkPoint → List TermNode → Walk → Type 0
GoesThrough ns r ps at ms w =
    (f : Naming) (name : UnitName) (before now : Story) (b : FlatBlock) (x : RegionEdge) (xs : List RegionEdge) → IsStart ns f name r ps at before now b x xs →
    (turns : ℕ) × Comes ms f name r w turns 0 (region_from (region_text f r) at.block (x ∷ xs))

-- Where it is not gone through, the definition stops for that reason.
abbrev pub GoesNot : List TermNode → Region → List PlaceState → WalkPoint → RegionFault → Type 0
GoesNot ns r ps at e =
    (f : Naming) (name : UnitName) (before now : Story) (b : FlatBlock) (x : RegionEdge) (xs : List RegionEdge) → IsStart ns f name r ps at before now b x xs →
    StopsFor (region_from (region_text f r) at.block (x ∷ xs)) (refusal_of e)
