-- A story goes on: what stands by it stands by the one that goes on from it, and as terms are made.
use Rattle.std.proofs.Common.{◌≡◌, ℕ, ◌+◌, ◌<◌, List, [], ◌∷◌, refl, sym, ◌∙◌, subst, arith}
use Rattle.lh_unit.specs.Naming.{Naming}
use Rattle.lh_term.specs.Tree.{Tree}
use Rattle.lh_term.specs.Arena.{Grows}
use Rattle.lh_term.specs.declared.term.TermNode.{TermNode}
use Rattle.lh_region_def.specs.Known.{Known, Knowledge}
use Rattle.lh_region_def.specs.Rows as text
use Rattle.lh_region_def.specs.Joins.{RegionEdge}
use Rattle.lh_region_def.specs.Regions.{Course, edges_to, edges_of_ends}
use Rattle.lh_region_joins.specs.declared.edge.Edge.{Edge}
use Rattle.lh_region_places.specs.declared.state.PlaceState.{PlaceState}
use Rattle.lh_region.specs.declared.ahead.Ahead.{Ahead}
use Rattle.lh_region_walk.specs.declared.walk.Region.{Region}
use Rattle.lh_region_walk.specs.declared.walk.Walk.{Walk}
use Rattle.lh_region.specs.Ahead.{led_to}
use Rattle.lh_region.specs.Walking.{Story, IsEdge, AreEdges, place_of, AreAhead, AreSources}
use Rattle.lh_region.specs.Gives.{with_term, TellsGiven}
use Rattle.lh_region_walk.specs.Walked.{ContinuesStory, IsSoFar}
use Rattle.lh_region.proofs.LeadingEdges.{edges-grown, ahead-grown}
use Rattle.lh_region.proofs.RowLists.{rows-grown}

-- ---- stories

pub continues-none : (s : Story) → ContinuesStory s s
continues-none s = record { naming = refl; values = refl; blocks = refl; places = omega arith; known = λ i k l t. t }

pub continues-on : (s r q : Story) → ContinuesStory s r → ContinuesStory r q → ContinuesStory s q
continues-on s r q a b = record {
  naming = b.naming ∙ a.naming;
  values = b.values ∙ a.values;
  blocks = b.blocks ∙ a.blocks;
  places = omega (arith, a.places, b.places);
  known = λ i k l t. b.known i k (omega (arith, l, a.places)) (a.known i k l t);
}

-- the place that is treated gives a term: what was told at the places before it is still told
pub continues-given : (ns : List TermNode) (qs : List PlaceState) (before now : Story) (i v : ℕ) (k : Knowledge) (a : Known) (x : Tree) → before.places ≡ i → ContinuesStory before now
    → TellsGiven ns qs now i v k a x → ContinuesStory before (with_term now i v x)
continues-given ns qs before now i v k a x p c g = record {
  naming = c.naming;
  values = c.values;
  blocks = c.blocks;
  places = c.places;
  known = λ j kk l t w m. g.before j w (omega (arith, l, p)) ∙ c.known j kk l t w m;
}

-- ---- edges

edge-on : (ns : List TermNode) (s r : Story) (e : Edge) (x : RegionEdge) → ContinuesStory s r → IsEdge ns s e x → IsEdge ns r e x
edge-on ns s r e x c h = record {
  within = omega (arith, h.within, c.places);
  of_text = subst (λ (n : ℕ). e.block < n) (sym c.blocks) h.of_text;
  block = subst (λ (f : Naming). f.label_name e.block ≡ x.from) (sym c.naming) h.block;
  cond = h.cond;
  told = c.known e.from x.known h.within h.told;
}

pub edges-on : (ns : List TermNode) (s r : Story) → ContinuesStory s r → (es : List Edge) (xs : List RegionEdge) → AreEdges ns s es xs → AreEdges ns r es xs
edges-on ns s r c [] [] h = tt
edges-on ns s r c [] (x ∷ xs) h = absurd h
edges-on ns s r c (e ∷ es) [] h = absurd h
edges-on ns s r c (e ∷ es) (x ∷ xs) h = (edge-on ns s r e x c h.0, edges-on ns s r c es xs h.1)

pub ahead-on : (ns : List TermNode) (s r : Story) (turns block : ℕ) (a : Ahead) (xs : List RegionEdge) → ContinuesStory s r → AreAhead ns s turns block a xs → AreAhead ns r turns block a xs
ahead-on ns s r turns block a xs c h = record {
  here = λ b l. edges-on ns s r c (led_to a.here.items b) (edges_to (place_of turns b) xs) (h.here b l);
  next = λ b. edges-on ns s r c (led_to a.next.items b) (edges_to (place_of (turns + 1) b) xs) (h.next b);
  last = h.last;
}

pub sources-on : (ns : List TermNode) (s r : Story) (es : List Edge) (xs : List text.RegionEnd) → ContinuesStory s r → AreSources ns s es xs → AreSources ns r es xs
sources-on ns s r es xs c h = edges-on ns s r c es (edges_of_ends 0 xs) h

pub so-far-on : (ns : List TermNode) (f : Naming) (r : Region) (w : Walk) (turns block : ℕ) (s q : Story) (c : Course) → ContinuesStory s q → IsSoFar ns f r w turns block s c
    → IsSoFar ns f r w turns block q c
so-far-on ns f r w turns block s q c t h = record {
  naming = t.naming ∙ h.naming;
  values = t.values ∙ h.values;
  blocks = t.blocks ∙ h.blocks;
  here_long = h.here_long;
  next_long = h.next_long;
  ahead = ahead-on ns s q turns block w.ahead c.edges t h.ahead;
  few = h.few;
  insts = h.insts;
  rows = h.rows;
  sources = sources-on ns s q w.sources c.rows.ends t h.sources;
}

-- ---- an arena that grows

pub sources-grown : (ns ms : List TermNode) (s : Story) (es : List Edge) (xs : List text.RegionEnd) → Grows ns ms → AreSources ns s es xs → AreSources ms s es xs
sources-grown ns ms s es xs g h = edges-grown ns ms s es (edges_of_ends 0 xs) g h

pub so-far-grown : (ns ms : List TermNode) (f : Naming) (r : Region) (w : Walk) (turns block : ℕ) (s : Story) (c : Course) → Grows ns ms → IsSoFar ns f r w turns block s c
    → IsSoFar ms f r w turns block s c
so-far-grown ns ms f r w turns block s c g h = record {
  naming = h.naming;
  values = h.values;
  blocks = h.blocks;
  here_long = h.here_long;
  next_long = h.next_long;
  ahead = ahead-grown ns ms s turns block w.ahead c.edges g h.ahead;
  few = h.few;
  insts = h.insts;
  rows = rows-grown ns ms w.rows c.rows g h.rows;
  sources = sources-grown ns ms s w.sources c.rows.ends g h.sources;
}
