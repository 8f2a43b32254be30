-- The walk by ids beside the walk of the definition: what is told at the places so far, and the edges that lead on from them.
use Rattle.std.specs.Prelude.{◌≡◌, ℕ, ◌+◌, ◌<◌, ◌≤◌, List, [], ◌∷◌, ◌&&◌, false, nat_eq, Option, Some, None}
use Rattle.std.specs.Option.{option_and_then}
use Rattle.lh_unit.specs.Naming.{Naming}
use Rattle.lh_term.specs.Tree.{Tree}
use Rattle.lh_term.specs.Arena.{StandsForTree}
use Rattle.lh_term.specs.declared.term.TermNode.{TermNode}
use Rattle.lh_region_def.specs.Known.{Known, known_value, known_cell, known_part, Knowledge}
use Rattle.lh_region_def.specs.Rows as text
use Rattle.lh_region_def.specs.Joins.{RegionPlace, RegionEdge}
use Rattle.lh_region_def.specs.Places.{Region, Here, Midst, goes}
use Rattle.lh_region_def.specs.Regions.{edges_to, edges_of_ends}
use Rattle.lh_region_joins.specs.declared.edge.Edge.{Edge}
use Rattle.lh_region.specs.declared.ahead.Ahead.{Ahead}
use Rattle.lh_region.specs.Ahead.{led_to}
use Rattle.lh_region_places.specs.Asked.{KnownTerms}

-- the term of a value, or of what a variable holds; of a part there is none
abbrev pub as_term : Known → Option Tree
as_term (known_value t) = Some t
as_term (known_cell t) = Some t
as_term (known_part p) = None

-- the term that is known under a name
abbrev pub term_known : Knowledge → List ℕ → Option Tree
term_known k n = option_and_then as_term (k n)

-- the names of the values and blocks of a text, how many of each there are, how many places there are by now, and what is told at them
pub record Story : Type 0 where
  pub naming : Naming
  pub values : ℕ
  pub blocks : ℕ
  pub places : ℕ
  pub told : KnownTerms

-- what is told of each value at a place is the term that is known under its name
abbrev pub TellsKnown : Story → (place : ℕ) → Knowledge → Type 0
TellsKnown s i k = (v : ℕ) → v < s.values → s.told i v ≡ term_known k (s.naming.value_name v)

-- the edge comes from a place and leaves a block of the text, and is the definition's: of the same block, on the same condition, and what is told at the place is known on it
pub record IsEdge (ns : List TermNode) (s : Story) (e : Edge) (x : RegionEdge) : Type 0 where
  pub within : e.from < s.places
  pub of_text : e.block < s.blocks
  pub block : s.naming.label_name e.block ≡ x.from
  pub cond : StandsForTree ns e.cond x.cond
  pub told : TellsKnown s e.from x.known

-- the edges are those, one by one
abbrev pub AreEdges : List TermNode → Story → List Edge → List RegionEdge → Type 0
AreEdges ns s [] [] = Unit {0}
AreEdges ns s (e ∷ es) (x ∷ xs) = IsEdge ns s e x × AreEdges ns s es xs
AreEdges ns s _ _ = ⊥

abbrev pub place_of : (turns block : ℕ) → RegionPlace
place_of t b = record { turns = t; block = b }

-- Of the definition's edges so far, those that lead to blocks from this one on at this turn, and to any block at the next one, are ahead; none leads to a later turn.
pub record AreAhead (ns : List TermNode) (s : Story) (turns block : ℕ) (ahead : Ahead) (xs : List RegionEdge) : Type 0 where
  pub here : (b : ℕ) → block ≤ b → AreEdges ns s (led_to ahead.here.items b) (edges_to (place_of turns b) xs)
  pub next : (b : ℕ) → AreEdges ns s (led_to ahead.next.items b) (edges_to (place_of (turns + 1) b) xs)
  pub last : (t b : ℕ) → turns + 1 < t → edges_to (place_of t b) xs ≡ []

-- One more edge leads from a place of this turn to a block, as where the definition goes there and the region does not end by that.
abbrev pub LeadsOn : Ahead → (turns block : ℕ) → Edge → Ahead → Type 0
LeadsOn old turns b e new =
    (ns : List TermNode) (s : Story) (g : Region) (h : Here) (c : Tree) (m : Midst) → h.place ≡ place_of turns e.block → h.label ≡ s.naming.label_name e.block → e.from < s.places → e.block < s.blocks
    → StandsForTree ns e.cond c → TellsKnown s e.from m.known →
    (g.ends_at_head && nat_eq b g.head) ≡ false → AreAhead ns s turns (e.block + 1) old m.edges → AreAhead ns s turns (e.block + 1) new (goes g h c m b).edges

-- The ends of a region as edges to where it goes on.
abbrev pub AreSources : List TermNode → Story → List Edge → List text.RegionEnd → Type 0
AreSources ns s es ends = AreEdges ns s es (edges_of_ends 0 ends)
