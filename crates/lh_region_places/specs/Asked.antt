-- What is told of each value and variable at each place, and what places keep of it.
use Rattle.std.specs.Prelude.{◌≡◌, ℕ, ◌<◌, List, [], ◌∷◌, length, map, Bool, true, false, ◌||◌, nat_eq, if◌then◌else◌, Option, Some, slice_get, slice_set}
use Rattle.std.specs.List.{list_any}
use Rattle.std.specs.Option.{is_some, option_and_then, option_map_or}
use Rattle.std.specs.HashMap.{get}
use Rattle.lh_unit.specs.Within.{Each}
use Rattle.lh_term.specs.Tree.{Tree}
use Rattle.lh_term.specs.Types.{IsTyped, type_of}
use Rattle.lh_term.specs.Arena.{trees, tree_at, trees_at, IsIn, StandsForTree}
use Rattle.lh_term.specs.declared.term.TermId.{TermId}
use Rattle.lh_term.specs.declared.term.TermNode.{TermNode}
use Rattle.lh_region_def.specs.Joins.{selector}
use Rattle.lh_region_joins.specs.declared.edge.Edge.{Edge}
use Rattle.lh_region_joins.specs.Joins.{AreConditions, edges_on, after_first, AreTerms, chosen_by}
use Rattle.lh_region_places.specs.declared.state.PlaceState.{PlaceState}

-- ---- which places keep a value

-- the term that a place keeps of value v
abbrev pub kept_by : ℕ → PlaceState → Option TermId
kept_by v p = get nat_eq p.known v

-- the term that the place of this number keeps of value v
abbrev pub kept_at : List PlaceState → (v i : ℕ) → Option TermId
kept_at ps v i = option_and_then (kept_by v) (slice_get ps i)

-- whether it keeps one
abbrev pub keeps : List PlaceState → (v i : ℕ) → Bool
keeps ps v i = is_some (kept_at ps v i)

abbrev pub source_of : Edge → ℕ
source_of e = e.from

-- the edges that lead to the place of this number, and the places from which they come
abbrev pub edges_at : List PlaceState → (i : ℕ) → List Edge
edges_at ps i = option_map_or (λ (p : PlaceState). p.edges.items) (slice_get ps i) []

abbrev pub sources : List PlaceState → (i : ℕ) → List ℕ
sources ps i = map source_of (edges_at ps i)

-- the number is one of these
abbrev pub is_on : List ℕ → ℕ → Bool
is_on way i = list_any (nat_eq i) way

abbrev pub IsBelow : (n i : ℕ) → Type 0
IsBelow n i = i < n

-- edges to a place come from earlier ones
abbrev pub ComeEarlier : List PlaceState → Type 0
ComeEarlier ps = (i : ℕ) → Each (IsBelow i) (sources ps i)

-- ---- what is told

-- The term of value v at place i, once the place's lines are taken, if one is known there: what the definition knows under the name of v.
-- It is no part of the program: contracts say "for all that is told".
abbrev pub KnownTerms : Type 0
KnownTerms = (i v : ℕ) → Option Tree

-- what tells the edges after the first from the others
abbrev pub selectors_on : List TermNode → List Edge → List Tree
selectors_on ns es = map (selector (edges_on ns es)) (after_first (edges_on ns es))

-- the value of the edge that is taken, of the first and the others
abbrev pub joined_by : List TermNode → List Edge → Tree → List Tree → Tree
joined_by ns es x xs = chosen_by (selectors_on ns es) x xs

-- terms of one type
pub record AreOfOneType (x : Tree) (xs : List Tree) : Type 0 where
  pub typed : IsTyped x
  pub others : Each (λ (y : Tree). IsTyped y × (type_of x ≡ type_of y)) xs

-- the term is what these edges give of v, merged
pub record Joins (ns : List TermNode) (told : KnownTerms) (v : ℕ) (es : List Edge) (x : Tree) : Type 0 where
  pub first : Tree
  pub others : List Tree
  pub each : map (λ (e : Edge). told e.from v) es ≡ map Some (first ∷ others)
  pub alike : AreOfOneType first others
  pub gives : x ≡ joined_by ns es first others

-- The conditions of a place's edges are of the arena, and the selectors that it keeps are those of its edges.
pub record IsJoin (ns : List TermNode) (p : PlaceState) : Type 0 where
  pub conds : AreConditions ns p.edges.items
  pub selectors : (ts : List TermId) → p.selectors ≡ Some ts → AreTerms ns ts (selectors_on ns p.edges.items)

-- What is kept at each place is what is told there; what is not kept is merged from its edges, which come from earlier places.
pub record Tells (ns : List TermNode) (ps : List PlaceState) (told : KnownTerms) : Type 0 where
  pub earlier : ComeEarlier ps
  pub places : (i : ℕ) (p : PlaceState) → slice_get ps i ≡ Some p → IsJoin ns p
  pub kept : (i v : ℕ) (t : TermId) → kept_at ps v i ≡ Some t → (x : Tree) × (told i v ≡ Some x) × StandsForTree ns t x
  pub joins : (i v : ℕ) (x : Tree) → keeps ps v i ≡ false → told i v ≡ Some x → Joins ns told v (edges_at ps i) x

-- something is told of value v at a place
pub record CanAsk (ns : List TermNode) (ps : List PlaceState) (v i : ℕ) : Type 0 where
  pub told : KnownTerms
  pub tells : Tells ns ps told
  pub there : is_some (told i v) ≡ true

-- ---- what changes

-- the block of a place and the edges to it
abbrev pub shape_of : PlaceState → ℕ × List Edge
shape_of p = (p.block, p.edges.items)

-- no place is new, and all are of the same blocks, with the same edges
abbrev pub SamePlaces : List PlaceState → List PlaceState → Type 0
SamePlaces ps qs = map shape_of qs ≡ map shape_of ps

-- the place with this term of value v
pub record IsWith (p : PlaceState) (v : ℕ) (t : TermId) (q : PlaceState) : Type 0 where
  pub block : q.block ≡ p.block
  pub edges : q.edges ≡ p.edges
  pub selectors : q.selectors ≡ p.selectors
  pub known : (w : ℕ) → kept_by w q ≡ (if nat_eq v w then Some t else kept_by w p)

-- the places, with this one in place of the one of this number
pub record IsReplaced (ps : List PlaceState) (i : ℕ) (p q : PlaceState) (qs : List PlaceState) : Type 0 where
  pub was : slice_get ps i ≡ Some p
  pub set : qs ≡ slice_set ps i q

-- the place of this number with this term of value v
pub record IsWithAt (ps : List PlaceState) (i v : ℕ) (t : TermId) (qs : List PlaceState) : Type 0 where
  pub old : PlaceState
  pub new : PlaceState
  pub replaced : IsReplaced ps i old new qs
  pub with_term : IsWith old v t new

-- What was told before of value v at a place is so still, and places keep only more of v.
abbrev pub StillTold : List TermNode → List PlaceState → List TermNode → List PlaceState → (v i : ℕ) → Type 0
StillTold ns ps ms qs v i = (told : KnownTerms) → Tells ns ps told → is_some (told i v) ≡ true → Tells ms qs told

-- The term is what is told of value v at a place.
abbrev pub IsTold : List TermNode → List PlaceState → List TermNode → (v i : ℕ) → TermId → Type 0
IsTold ns ps ms v i t = (told : KnownTerms) → Tells ns ps told → is_some (told i v) ≡ true → (x : Tree) × (told i v ≡ Some x) × StandsForTree ms t x

-- ---- merging values

-- one term for each edge to a place, all of one type
pub record CanJoin (ns : List TermNode) (p : PlaceState) (vs : List TermId) : Type 0 where
  pub first : TermId
  pub others : List TermId
  pub are : vs ≡ first ∷ others
  pub long : length vs ≡ length p.edges.items
  pub first_in : IsIn ns first
  pub others_in : Each (IsIn ns) others
  pub alike : AreOfOneType (tree_at (trees ns) first) (trees_at ns others)

-- the term stands for those of the edges, merged
abbrev pub IsJoined : List TermNode → List Edge → List TermId → List TermNode → TermId → Type 0
IsJoined ns es vs ms t = (x : Tree) (xs : List Tree) → trees_at ns vs ≡ x ∷ xs → StandsForTree ms t (joined_by ns es x xs)

-- the place with selectors, perhaps, that are those of its edges
pub record IsSelected (ms : List TermNode) (p q : PlaceState) : Type 0 where
  pub block : q.block ≡ p.block
  pub edges : q.edges ≡ p.edges
  pub known : q.known ≡ p.known
  pub join : IsJoin ms q

-- the same, in place of the place of this number
pub record IsSelectedAt (ms : List TermNode) (ps : List PlaceState) (i : ℕ) (qs : List PlaceState) : Type 0 where
  pub old : PlaceState
  pub new : PlaceState
  pub replaced : IsReplaced ps i old new qs
  pub selected : IsSelected ms old new

-- the places keep value v where they did, and at place i
abbrev pub IsKeptAlso : List PlaceState → (v i : ℕ) → List PlaceState → Type 0
IsKeptAlso ps v i qs = (j : ℕ) → keeps qs v j ≡ (nat_eq i j || keeps ps v j)

-- the terms that these places keep of value v
abbrev pub AreKept : List PlaceState → (v : ℕ) → List ℕ → List TermId → Type 0
AreKept ps v is ts = map Some ts ≡ map (kept_at ps v) is
