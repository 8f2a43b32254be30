-- A place begins: nothing is kept there yet, and what is told there is what its edges join.
use Rattle.std.specs.Prelude.{◌≡◌, ℕ, ◌+◌, ◌<◌, List, [], ◌∷◌, ◌++◌, length, nat_eq, nat_lt, if◌then◌else◌, Option, Some, None}
use Rattle.lh_types.specs.Types.{TypeTree}
use Rattle.lh_unit.specs.Within.{Each}
use Rattle.lh_term.specs.Tree.{Tree}
use Rattle.lh_term.specs.Types.{IsTyped, type_of}
use Rattle.lh_term.specs.declared.term.TermNode.{TermNode}
use Rattle.lh_region_def.specs.Known.{Knowledge}
use Rattle.lh_region_def.specs.Joins.{RegionEdge, joined}
use Rattle.lh_region_def.specs.Typed.{IsCondition}
use Rattle.lh_region_joins.specs.declared.edge.Edge.{Edge}
use Rattle.lh_region_places.specs.declared.state.PlaceState.{PlaceState}
use Rattle.lh_region_places.specs.Asked.{kept_by, Tells}
use Rattle.lh_region.specs.Walking.{Story, term_known, TellsKnown, AreEdges}

-- what is told of a value where this is known under the names of values
abbrev pub told_by : Story → Knowledge → ℕ → Option Tree
told_by s k v = if nat_lt v s.values then term_known k (s.naming.value_name v) else None

-- the story with one more place, at which this is known
abbrev pub with_place : Story → Knowledge → Story
with_place s k = record { naming = s.naming; values = s.values; blocks = s.blocks; places = s.places + 1; told = λ i v. if nat_eq i s.places then told_by s k v else s.told i v }

-- a term that is known under a name on one of these edges is typed, and of this type
abbrev pub AreOfType : TypeTree → List ℕ → List RegionEdge → Type 0
AreOfType ty n xs = Each (λ (x : RegionEdge). (t : Tree) → term_known x.known n ≡ Some t → IsTyped t × (type_of t ≡ ty)) xs

-- The edges are taken on conditions, and the terms of one value are of one type on all of them.
pub record CanBegin (s : Story) (xs : List RegionEdge) : Type 0 where
  pub conds : Each (λ (x : RegionEdge). IsCondition x.cond) xs
  pub typed : (v : ℕ) → v < s.values → (ty : TypeTree) × AreOfType ty (s.naming.value_name v) xs

-- the places with one more of this block, to which these edges lead
pub record IsBegun (ps : List PlaceState) (block : ℕ) (es : List Edge) (qs : List PlaceState) : Type 0 where
  pub new : PlaceState
  pub put : qs ≡ ps ++ new ∷ []
  pub block_is : new.block ≡ block
  pub edges_are : new.edges.items ≡ es
  pub no_selectors : new.selectors ≡ None
  pub kept : (v : ℕ) → kept_by v new ≡ None

-- what is known at the places so far is still told
abbrev pub StaysKnown : Story → Story → Type 0
StaysKnown s r = (i : ℕ) (k : Knowledge) → i < s.places → TellsKnown s i k → TellsKnown r i k

-- What was told is still told, and at the new place what the edges that lead there join.
pub record TellsJoined (ns : List TermNode) (qs : List PlaceState) (s : Story) (xs : List RegionEdge) : Type 0 where
  pub tells : Tells ns qs (with_place s (joined xs)).told
  pub known : TellsKnown (with_place s (joined xs)) s.places (joined xs)
  pub before : StaysKnown s (with_place s (joined xs))
  pub count : s.places + 1 ≡ length qs

-- The place begins with what its edges join, of whatever is told so far.
abbrev pub BeginsJoined : List PlaceState → List Edge → List PlaceState → Type 0
BeginsJoined ps es qs = (ns : List TermNode) (s : Story) (x : RegionEdge) (xs : List RegionEdge) → Tells ns ps s.told → s.places ≡ length ps → AreEdges ns s es (x ∷ xs) → CanBegin s (x ∷ xs)
    → TellsJoined ns qs s (x ∷ xs)
