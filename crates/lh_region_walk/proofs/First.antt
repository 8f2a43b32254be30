-- The first region starts at the head: what is told at its first place is what is known there.
use Rattle.std.proofs.Common.{◌≡◌, inl, ℕ, ◌+◌, ◌<◌, true, false, List, [], ◌∷◌, length, Option, Some, None, slice_get, refl, ap, sym, ◌∙◌, subst, arith}
use Rattle.std.specs.Option.{option_and_then, option_map}
use Rattle.std.proofs.lemmas.Option.{same_Some}
use Rattle.lh_unit_names.specs.declared.name.UnitName.{UnitName}
use Rattle.lh_unit.specs.Contents.{UnitText}
use Rattle.lh_unit.specs.Held.{front}
use Rattle.lh_unit.specs.Naming.{Naming}
use Rattle.lh_unit.specs.Typing.{or_else}
use Rattle.lh_flat_laws.specs.Formed.{IsFormed}
use Rattle.lh_flat.specs.declared.flat.FlatBlock.{FlatBlock}
use Rattle.lh_flat.specs.declared.flat.FlatInst.{FlatInst}
use Rattle.lh_flat.specs.Flat.{FlatBlockText, FlatText, flat_unit, as_block}
use Rattle.lh_flat.specs.Reads.{flat_block_text, flat_text}
use Rattle.lh_term.specs.Make.{bit_of}
use Rattle.lh_term.specs.Arena.{StandsForTree, Grows}
use Rattle.lh_term.specs.declared.term.TermNode.{TermNode}
use Rattle.lh_region_def.specs.Known.{Known, known_value, known_cell, known_part, as_value, as_cell, as_part}
use Rattle.lh_region_def.specs.Joins.{RegionEdge, merged, first_one, joined}
use Rattle.lh_region_def.specs.Regions as rows
use Rattle.lh_region_def.specs.Regions.{lines_at, head_of, known_first, edge_into, first_region, region_from}
use Rattle.lh_region_def.specs.Typed.{JoinEdge}
use Rattle.lh_region_def.proofs.Start as Start
use Rattle.lh_region_places.specs.declared.state.PlaceState.{PlaceState}
use Rattle.lh_region_walk.specs.declared.walk.Region.{Region}
use Rattle.lh_region_walk.specs.declared.walk.Walk.{Walk}
use Rattle.lh_region_walk.specs.declared.walk.WalkPoint.{WalkPoint}
use Rattle.lh_region.specs.declared.rows.RegionFault.{RegionFault}
use Rattle.lh_region_places.specs.Asked.{kept_by, Tells}
use Rattle.lh_region.specs.Effects.{probed}
use Rattle.lh_region.specs.Stands.{refusal_of}
use Rattle.lh_region.specs.Starts.{constant_given, KnowsConstants, lines_left}
use Rattle.lh_region.specs.Walking.{as_term, term_known}
use Rattle.lh_region_walk.specs.Walked.{process_by, region_text, IsRegion, StopsFor}
use Rattle.lh_region_walk.specs.Turns.{IsStart, CanStart, GoesThrough, GoesNot}
use Rattle.lh_region_walk.specs.Both.{HasRegion, GoesFirst, FirstStops}
use Rattle.lh_region_walk.proofs.FormedText.{head-is, head-within, blocks-there, phi-agrees}
use Rattle.lh_region_walk.proofs.Reached.{block-there}
use Rattle.lh_region_walk.proofs.Regional.{block-text-at}
use Rattle.lh_region.proofs.EntryConstants.{maybe-grown}
use Rattle.lh_region_walk.proofs.NamedCourse.{named-start}
use Rattle.lh_region_walk.proofs.Constants.{no_story, first_story, start-tells, start-known}

-- what one edge joins is what is known on it
one-joined : (e : RegionEdge) (o : Option Known)
    → option_and_then as_term (or_else (option_map known_value (option_and_then (merged (e ∷ [])) (front (option_and_then as_value o) (Some []))))
    (or_else (option_map known_cell (option_and_then (merged (e ∷ [])) (front (option_and_then as_cell o) (Some []))))
    (option_map known_part (option_and_then first_one (front (option_and_then as_part o) (Some [])))))) ≡ option_and_then as_term o
one-joined e None = refl
one-joined e (Some (known_value t)) = refl
one-joined e (Some (known_cell t)) = refl
one-joined e (Some (known_part p)) = refl

pub joined-one : (e : RegionEdge) (n : List ℕ) → term_known (joined (e ∷ [])) n ≡ term_known e.known n
joined-one e n = one-joined e (e.known n)

module _ (f : Naming) (name : UnitName) (r : Region) (h : IsRegion f r) where
  abbrev pub u : UnitText
  u = process_by name f r.flat.now

  abbrev pub t : FlatText
  t = flat_text f r.flat.now

  pub formed : IsFormed (flat_unit name t)
  formed = h.names.formed name

  pub head-same : head_of t.blocks ≡ r.head
  head-same = head-is f name r.flat.now h.below h.names ∙ sym h.head

  pub record HeadBlock : Type 0 where
    pub block : FlatBlock
    pub at : slice_get r.flat.now.blocks r.head ≡ Some block

  pub head-block : HeadBlock
  head-block =
      let l : r.head < length r.flat.now.blocks = subst (λ k. k < length r.flat.now.blocks) (sym h.head) (head-within r.flat.now h.below (blocks-there f name r.flat.now h.names)) in
      let b = block-there r.flat.now.blocks r.head l in
      record { block = b.0; at = b.1 }

  pub plain : rows.begins_with_phi (lines_at t.blocks (head_of t.blocks)) ≡ false
  plain = ap (λ k. rows.begins_with_phi (lines_at t.blocks k)) head-same ∙ phi-agrees f r.flat.now r.head head-block.block head-block.at ∙ h.plain head-block.block head-block.at

  -- the edge with which the region starts
  abbrev pub first_edge : RegionEdge
  first_edge = edge_into r.head [] (bit_of true) (known_first t)

  first-join : JoinEdge u (as_block (flat_block_text f r.head head-block.block)) first_edge
  first-join =
      let text = block-text-at f r.flat.now.blocks r.head head-block.block head-block.at in
      let same : Start.hb name t formed plain ≡ flat_block_text f r.head head-block.block =
      same_Some (Start.hb name t formed plain) (flat_block_text f r.head head-block.block) (sym (Start.head-block name t formed plain).at.at ∙ ap (slice_get t.blocks) head-same ∙ text) in
      subst (λ k. JoinEdge u (as_block (flat_block_text f r.head head-block.block)) (edge_into k [] (bit_of true) (known_first t))) head-same
      (subst (λ (b : FlatBlockText). JoinEdge u (as_block b) (edge_into (head_of t.blocks) [] (bit_of true) (known_first t))) same (Start.first-joins name t formed plain))

  -- the region starts at a place at which the constants of the entry are known
  pub first-start : (ns : List TermNode) (ps : List PlaceState) (p : PlaceState) (at : WalkPoint) → ps ≡ p ∷ [] → p.edges.items ≡ [] → p.selectors ≡ None
      → KnowsConstants ns p (lines_left r.flat.now.blocks r.head) → at.place ≡ 0 → at.block ≡ r.head → at.turns ≡ 0 → StandsForTree ns at.cond (bit_of true)
      → IsStart ns f name r ps at (no_story f r.flat.now) (first_story f r.flat.now) head-block.block first_edge []
  first-start ns ps p at one edges selectors known place block turns cond = record {
    region = h;
    block = subst (λ k. slice_get r.flat.now.blocks k ≡ Some head-block.block) (sym block) head-block.at;
    turns = turns;
    naming = refl;
    values = refl;
    blocks = refl;
    continues = record { naming = refl; values = refl; blocks = refl; places = omega arith; known = λ i k l. absurd (omega (arith, l)) };
    was = sym place;
    is = ap (λ k. k + 1) (sym place);
    places = let z : 1 ≡ length (p ∷ []) = omega arith in z ∙ sym (ap length one);
    tells = subst (λ qs. Tells ns qs (first_story f r.flat.now).told) (sym one) (start-tells f r.flat.now h.names h.below r.head head-same ns p edges selectors known);
    known = λ v l. ap (λ k. (first_story f r.flat.now).told k v) place ∙ start-known f r.flat.now v l ∙ sym (joined-one first_edge (f.value_name v));
    cond = cond;
    edges = inl (h.plain head-block.block head-block.at);
    join = (subst (λ k. JoinEdge u (as_block (flat_block_text f k head-block.block)) first_edge) (sym block) first-join, tt);
    named = (named-start name t formed, tt);
  }

  module _ (stays : r.ends_at_head ≡ false) where
    -- the region of the definition
    pub first-is : region_from (region_text f r) r.head (first_edge ∷ []) ≡ first_region t (probed r.is_past)
    first-is = λ i. region_from (record { blocks = t.blocks; head = sym head-same i; probe = probed r.is_past; ends_at_head = stays i }) (sym head-same i)
        (edge_into (sym head-same i) [] (bit_of true) (known_first t) ∷ [])

-- the constants are known as terms are made
pub constants-grown : (ns ms : List TermNode) (p : PlaceState) (ls : List FlatInst) → Grows ns ms → KnowsConstants ns p ls → KnowsConstants ms p ls
constants-grown ns ms p ls g k = λ v. maybe-grown ns ms (kept_by v p) (constant_given ls v) g (k v)

-- the places with which the first region starts
pub record IsHeadPlace (r : Region) (ns : List TermNode) (ps : List PlaceState) (at : WalkPoint) : Type 0 where
  pub start : PlaceState
  pub one : ps ≡ start ∷ []
  pub edges : start.edges.items ≡ []
  pub selectors : start.selectors ≡ None
  pub known : KnowsConstants ns start (lines_left r.flat.now.blocks r.head)
  pub place : at.place ≡ 0
  pub block : at.block ≡ r.head
  pub turns : at.turns ≡ 0
  pub cond : StandsForTree ns at.cond (bit_of true)

module _ (r : Region) (ns : List TermNode) (ps : List PlaceState) (at : WalkPoint) (k : IsHeadPlace r ns ps at) where
  starts : (f : Naming) (name : UnitName) (h : IsRegion f r) → IsStart ns f name r ps at (no_story f r.flat.now) (first_story f r.flat.now) (head-block f name r h).block (first_edge f name r h) []
  starts f name h = first-start f name r h ns ps k.start at k.one k.edges k.selectors k.known k.place k.block k.turns k.cond

  -- what a unit is called says nothing here
  abbrev any_name : Naming → UnitName
  any_name f = f.unit_name 0

  pub can-start : HasRegion r → CanStart ns r ps at
  can-start h = record {
    naming = h.naming;
    name = any_name h.naming;
    before = no_story h.naming r.flat.now;
    now = first_story h.naming r.flat.now;
    block = (head-block h.naming (any_name h.naming) r h.region).block;
    first = first_edge h.naming (any_name h.naming) r h.region;
    more = [];
    start = starts h.naming (any_name h.naming) h.region;
  }

  pub goes-first : r.ends_at_head ≡ false → (ms : List TermNode) (w : Walk) → GoesThrough ns r ps at ms w → GoesFirst r ms w
  goes-first stays ms w g f name h =
      let x = g f name (no_story f r.flat.now) (first_story f r.flat.now) (head-block f name r h).block (first_edge f name r h) [] (starts f name h) in
      (x.0, (x.1.0, x.1.1, sym (first-is f name r h stays) ∙ ap (λ b. region_from (region_text f r) b (first_edge f name r h ∷ [])) (sym k.block) ∙ x.1.2, x.1.3))

  pub first-stops : r.ends_at_head ≡ false → (e : RegionFault) → GoesNot ns r ps at e → FirstStops r e
  first-stops stays e g f h =
      let name = any_name f in
      subst (λ c. StopsFor c (refusal_of e)) (ap (λ b. region_from (region_text f r) b (first_edge f name r h ∷ [])) k.block ∙ first-is f name r h stays)
      (g f name (no_story f r.flat.now) (first_story f r.flat.now) (head-block f name r h).block (first_edge f name r h) [] (starts f name h))
