-- A place that has begun takes the merge and the `phi` of its block, each by its edges, and then its lines.
use Rattle.std.specs.Prelude.{◌≡◌, ◌⊎◌, ℕ, ◌+◌, ◌<◌, List, [], ◌∷◌, ◌++◌, length, map, true, false, Option, Some, None}
use Rattle.std.specs.Option.{option_map}
use Rattle.lh_types.specs.Types.{TypeTree}
use Rattle.lh_unit_names.specs.declared.name.UnitName.{UnitName}
use Rattle.lh_unit.specs.declared.inst.ValueId.{ValueId}
use Rattle.lh_unit.specs.declared.inst.PhiEdge.{PhiEdge}
use Rattle.lh_unit.specs.declared.inst.Inst.{Inst}
use Rattle.lh_unit.specs.declared.inst.Inst.TheVariants as inst
use Rattle.lh_unit.specs.Contents.{phi_text, LineText}
use Rattle.lh_unit.specs.Naming.{Naming, edge_text}
use Rattle.lh_unit.specs.Within.{Each}
use Rattle.lh_flat.specs.declared.flat.MergeEdge.{MergeEdge}
use Rattle.lh_flat.specs.declared.flat.Merge.{Merge}
use Rattle.lh_flat.specs.declared.flat.FlatInst.{FlatInst}
use Rattle.lh_flat.specs.declared.flat.FlatBlock.{FlatBlock}
use Rattle.lh_flat.specs.Below.{InstBelow}
use Rattle.lh_flat.specs.Flat.{MergeText, with_merge}
use Rattle.lh_flat.specs.Reads.{merge_text, flat_line_text}
use Rattle.lh_term.specs.declared.term.TermNode.{TermNode}
use Rattle.lh_region_def.specs.Known.{Knowledge}
use Rattle.lh_region_def.specs.Joins.{RegionEdge, with_phi, with_phis, known_at}
use Rattle.lh_region_def.specs.Places.{Here, Midst, takes_all}
use Rattle.lh_region_def.specs.Regions.{Course, turns_too_often}
use Rattle.lh_region_def.specs.Typed.{PhiKnown}
use Rattle.lh_region_places.specs.declared.state.PlaceState.{PlaceState}
use Rattle.lh_region_walk.specs.declared.walk.Region.{Region}
use Rattle.lh_region_walk.specs.declared.walk.Walk.{Walk}
use Rattle.lh_region_walk.specs.declared.walk.WalkPoint.{WalkPoint}
use Rattle.lh_region.specs.declared.rows.RegionFault.{RegionFault}
use Rattle.lh_region.specs.declared.rows.RegionFault.TheVariants as fault
use Rattle.lh_region_places.specs.Asked.{edges_at, Tells}
use Rattle.lh_region.specs.Gives.{ValuesDiffer}
use Rattle.lh_region.specs.Heads.{LabelsDiffer}
use Rattle.lh_region.specs.Operands.{AreFrom}
use Rattle.lh_region.specs.Walking.{Story, TellsKnown, AreEdges}
use Rattle.lh_region_walk.specs.Walked.{leads_nowhere, ContinuesStory, region_text, IsCourse, course_at, IsBetween, IsOpened}

-- ---- a `phi`

-- The last place has these edges, which are told of by the story before it; by another, which goes on from that, what is told at it is known.
pub record IsMerging (ns : List TermNode) (ps : List PlaceState) (i : ℕ) (before : Story) (x : RegionEdge) (xs : List RegionEdge) (k : Knowledge) : Type 0 where
  pub now : Story
  pub continues : ContinuesStory before now
  pub was : before.places ≡ i
  pub is : now.places ≡ i + 1
  pub places : now.places ≡ length ps
  pub tells : Tells ns ps now.told
  pub known : TellsKnown now i k
  pub values : ValuesDiffer before
  pub labels : LabelsDiffer before.naming before.blocks
  pub edges : AreEdges ns before (edges_at ps i) (x ∷ xs)

-- the value that the `phi` gives and what it names are of the text, and on each edge what it names is known
pub record IsPhi (s : Story) (es : List RegionEdge) (v : ℕ) (ty : TypeTree) (operands : List PhiEdge) : Type 0 where
  pub value : v < s.values
  pub from : AreFrom s.blocks operands
  pub values : Each (λ (e : PhiEdge). e.value.0 < s.values) operands
  pub known : Each (λ (e : RegionEdge). PhiKnown e (phi_text ty (map (edge_text s.naming) operands))) es

-- what is known after a `phi`
abbrev pub phi_given : Story → List RegionEdge → (v : ℕ) → TypeTree → List PhiEdge → Knowledge → Knowledge
phi_given s es v ty operands k = with_phi es (phi_text ty (map (edge_text s.naming) operands)) (Some (s.naming.value_name v)) k

pub record CanTakePhi (ns : List TermNode) (ps : List PlaceState) (i v : ℕ) (operands : List PhiEdge) : Type 0 where
  pub before : Story
  pub first : RegionEdge
  pub more : List RegionEdge
  pub knows : Knowledge
  pub ty : TypeTree
  pub merging : IsMerging ns ps i before first more knows
  pub phi : IsPhi before (first ∷ more) v ty operands

-- The last place takes the `phi` as the definition does.
abbrev pub TakesPhi : List TermNode → List PlaceState → (i v : ℕ) → List PhiEdge → List TermNode → List PlaceState → Type 0
TakesPhi ns ps i v operands ms qs =
    (before : Story) (x : RegionEdge) (xs : List RegionEdge) (k : Knowledge) (ty : TypeTree) → IsMerging ns ps i before x xs k → IsPhi before (x ∷ xs) v ty operands
    → IsMerging ms qs i before x xs (phi_given before (x ∷ xs) v ty operands k)

-- ---- lines

-- a `phi` that gives a value is as it is asked of one
abbrev pub PhiFits : Story → List RegionEdge → Option ValueId → Inst → Type 0
PhiFits s es (Some v) (inst.Phi ty operands) = IsPhi s es v.0 ty operands
PhiFits s es _ _ = Unit {0}

abbrev pub LineFits : Story → List RegionEdge → FlatInst → Type 0
LineFits s es l = PhiFits s es l.result l.inst

pub record CanTakeLines (ns : List TermNode) (ps : List PlaceState) (i : ℕ) (ls : List FlatInst) : Type 0 where
  pub before : Story
  pub first : RegionEdge
  pub more : List RegionEdge
  pub knows : Knowledge
  pub merging : IsMerging ns ps i before first more knows
  pub fits : Each (LineFits before (first ∷ more)) ls

-- what is known after the `phi` of these lines
abbrev pub phis_given : Story → List RegionEdge → List FlatInst → Knowledge → Knowledge
phis_given s es ls k = with_phis es (map (flat_line_text s.naming) ls) k

-- The last place takes the `phi` of these lines as the definition does.
abbrev pub TakesPhis : List TermNode → List PlaceState → (i : ℕ) → List FlatInst → List TermNode → List PlaceState → Type 0
TakesPhis ns ps i ls ms qs =
    (before : Story) (x : RegionEdge) (xs : List RegionEdge) (k : Knowledge) → IsMerging ns ps i before x xs k → Each (LineFits before (x ∷ xs)) ls
    → IsMerging ms qs i before x xs (phis_given before (x ∷ xs) ls k)

-- ---- a merge

-- the edges of a merge as those of a `phi`
abbrev pub as_phi : MergeEdge → PhiEdge
as_phi e = record { value = e.value; block = e.block }

abbrev pub as_phis : List MergeEdge → List PhiEdge
as_phis es = map as_phi es

abbrev pub MergeFits : Story → List RegionEdge → Option Merge → Type 0
MergeFits s es None = Unit {0}
MergeFits s es (Some m) = IsPhi s es m.value.0 m.ty (as_phis m.edges)

pub record CanTakeMerge (ns : List TermNode) (ps : List PlaceState) (i : ℕ) (m : Option Merge) : Type 0 where
  pub before : Story
  pub first : RegionEdge
  pub more : List RegionEdge
  pub knows : Knowledge
  pub merging : IsMerging ns ps i before first more knows
  pub fits : MergeFits before (first ∷ more) m

-- what is known after the line that a merge is
abbrev pub merge_given : Story → List RegionEdge → Option Merge → Knowledge → Knowledge
merge_given s es None k = k
merge_given s es (Some m) k = phi_given s es m.value.0 m.ty (as_phis m.edges) k

-- The last place takes the merge, if there is one, as the definition takes a `phi`.
abbrev pub TakesMerge : List TermNode → List PlaceState → (i : ℕ) → Option Merge → List TermNode → List PlaceState → Type 0
TakesMerge ns ps i m ms qs =
    (before : Story) (x : RegionEdge) (xs : List RegionEdge) (k : Knowledge) → IsMerging ns ps i before x xs k → MergeFits before (x ∷ xs) m
    → IsMerging ms qs i before x xs (merge_given before (x ∷ xs) m k)

-- ---- a block

-- the line that a merge is
abbrev pub merge_lines : Option MergeText → List LineText
merge_lines o = with_merge o []

-- what is known before the lines of a block
abbrev pub midst_at : Naming → WalkPoint → FlatBlock → List RegionEdge → Course → Midst
midst_at f at b es c = record { known = known_at es (with_merge (option_map (merge_text f) b.merge) (map (flat_line_text f) b.insts)); edges = c.edges; rows = c.rows }

-- What is merged where the place begins is merged: its lines come next.
abbrev pub TakesMerges : List TermNode → Region → Walk → WalkPoint → List TermNode → Walk → Type 0
TakesMerges ns r w at ms q =
    (f : Naming) (name : UnitName) (before : Story) (h : Here) (b : FlatBlock) (x : RegionEdge) (xs : List RegionEdge) (c : Course) → IsOpened ns f name r w at before h b x xs c →
    IsBetween ms f name r q at before h c.insts b (merge_lines (option_map (merge_text f) b.merge)) (map (flat_line_text f) b.insts) (midst_at f at b (x ∷ xs) c)

-- ---- the lines of a block

-- some midst of a place, before these lines of its block
pub record CanTakeAll (ns : List TermNode) (r : Region) (w : Walk) (at : WalkPoint) (ls : List FlatInst) : Type 0 where
  pub naming : Naming
  pub name : UnitName
  pub before : Story
  pub here : Here
  pub insts : ℕ
  pub block : FlatBlock
  pub done : List LineText
  pub rest : List LineText
  pub midst : Midst
  pub below : Each (InstBelow r.flat.now.values (length r.flat.now.blocks)) ls
  pub between : IsBetween ns naming name r w at before here insts block done (map (flat_line_text naming) ls ++ rest) midst

-- none of them is a terminator
abbrev pub LeadNowhere : List FlatInst → Type 0
LeadNowhere ls = Each (λ (l : FlatInst). leads_nowhere l.inst ≡ true) ls

-- what the definition comes to by these lines
abbrev pub takes_lines : Naming → Region → Here → List FlatInst → Midst → Midst
takes_lines f r h ls m = takes_all (region_text f r) h (map (flat_line_text f) ls) m

-- What these lines do is what they do in the definition.
abbrev pub TakesLines : List TermNode → Region → Walk → WalkPoint → List FlatInst → List TermNode → Walk → Type 0
TakesLines ns r w at ls ms q =
    (f : Naming) (name : UnitName) (before : Story) (h : Here) (insts : ℕ) (b : FlatBlock) (done rest : List LineText) (m : Midst)
    → IsBetween ns f name r w at before h insts b done (map (flat_line_text f) ls ++ rest) m →
    IsBetween ms f name r q at before h insts b (done ++ map (flat_line_text f) ls) rest (takes_lines f r h ls m)

-- the last of these lines is a terminator, and no other is
abbrev pub EndsLast : List FlatInst → Type 0
EndsLast [] = ⊥
EndsLast (l ∷ []) = leads_nowhere l.inst ≡ false
EndsLast (l ∷ m ∷ more) = (leads_nowhere l.inst ≡ true) × EndsLast (m ∷ more)

-- What lines do of which the last is a terminator is what they do in the definition: the place was treated.
abbrev pub EndsLines : List TermNode → Region → Walk → WalkPoint → List FlatInst → List TermNode → Walk → Type 0
EndsLines ns r w at ls ms q =
    (f : Naming) (name : UnitName) (before : Story) (h : Here) (insts : ℕ) (b : FlatBlock) (done : List LineText) (m : Midst)
    → IsBetween ns f name r w at before h insts b done (map (flat_line_text f) ls) m →
    (s : Story) × IsCourse ms f r q at.turns (at.block + 1) s (course_at insts (takes_lines f r h ls m))

-- A fault of them has its cause: running out of memory, or an edge that leads to too many turns.
abbrev pub EndsLinesFor : List TermNode → Region → Walk → WalkPoint → List FlatInst → RegionFault → Type 0
EndsLinesFor ns r w at ls e =
    (e ≡ fault.OutOfMemory) ⊎
    ((e ≡ fault.TooManyTurns) ×
    ((f : Naming) (name : UnitName) (before : Story) (h : Here) (insts : ℕ) (b : FlatBlock) (done : List LineText) (m : Midst)
    → IsBetween ns f name r w at before h insts b done (map (flat_line_text f) ls) m →
    turns_too_often (takes_lines f r h ls m).edges ≡ true))
