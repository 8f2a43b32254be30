-- A region from where it starts: the first place, and then all turns.
use Rattle.std.proofs.Common.{◌≡◌, inl, inr, ⊎_elim, ℕ, zero, suc, ◌+◌, ◌<◌, ◌≤◌, Bool, true, false, if◌then◌else◌, List, [], ◌∷◌, length, Option, Some, None, slice_get, refl, ap, sym, ◌∙◌, subst, arith}
use Rattle.std.specs.Option.{option_map_or}
use Rattle.std.proofs.lemmas.Option.{none-some}
use Rattle.lh_unit_names.specs.declared.name.UnitName.{UnitName}
use Rattle.lh_unit.specs.Contents.{UnitText}
use Rattle.lh_unit.specs.Naming.{Naming}
use Rattle.lh_unit.specs.Within.{Each}
use Rattle.lh_flat.specs.declared.flat.FlatBlock.{FlatBlock}
use Rattle.lh_flat.specs.Flat.{FlatBlockText}
use Rattle.lh_flat.specs.Reads.{flat_block_text}
use Rattle.lh_flat.proofs.NumberNames.{read-long}
use Rattle.lh_term.specs.Make.{bit_of}
use Rattle.lh_term.specs.declared.term.TermNode.{TermNode}
use Rattle.lh_region_def.specs.Joins.{RegionPlace, RegionEdge}
use Rattle.lh_region_def.specs.Places.{Region as RegionText, next_place}
use Rattle.lh_region_def.specs.Regions.{RegionRefusal, Course, no_course, Coursed, comes_to, then_course, through_block, is_place, edges_to, through_all, all_places, region_from}
use Rattle.lh_region_def.specs.Right.{BlockAt}
use Rattle.lh_region_def.proofs.Steps.{RegionOf, EdgeRight}
use Rattle.lh_region_def.proofs.MergedValues.{bit-condition}
use Rattle.lh_region_def.proofs.Ordered.{Before, next-later, place-is}
use Rattle.lh_region_def.proofs.Courses as Courses
use Rattle.lh_region_places.specs.declared.state.PlaceState.{PlaceState}
use Rattle.lh_region_walk.specs.declared.walk.Region.{Region}
use Rattle.lh_region_walk.specs.declared.walk.Walk.{Walk}
use Rattle.lh_region_walk.specs.declared.walk.WalkPoint.{WalkPoint}
use Rattle.lh_region.specs.declared.rows.RegionFault.{RegionFault}
use Rattle.lh_region.specs.Ahead.{LeadsNowhere}
use Rattle.lh_region_places.specs.Asked.{edges_at, Tells}
use Rattle.lh_region.specs.Stands.{AreDrives, AreEnds, refusal_of}
use Rattle.lh_region_joins.specs.Joins.{AreTerms}
use Rattle.lh_region.specs.Walking.{Story, AreEdges, place_of}
use Rattle.lh_region_walk.specs.Walked.{process_by, region_text, IsCourse, IsOpened, CanTreat, treated, Treats, TreatsNot, StopsFor}
use Rattle.lh_region_walk.specs.Turns.{IsTurn, CanTurn, Stops, turns_at, PassesAll, start_here, IsStart, CanStart, GoesThrough, GoesNot}
use Rattle.lh_region_walk.proofs.Regional.{region-of, block-at-text}
use Rattle.lh_region_walk.proofs.NamedCourse.{named-place}

-- a walk that has not begun
pub record IsFresh (r : Region) (ps : List PlaceState) (w : Walk) : Type 0 where
  pub places : w.places.items ≡ ps
  pub here : LeadsNowhere (length r.flat.now.blocks) w.ahead.here.items
  pub next : LeadsNowhere (length r.flat.now.blocks) w.ahead.next.items
  pub insts : w.insts ≡ 0
  pub probes : w.rows.probes ≡ []
  pub drives : w.rows.drives ≡ []
  pub asserts : w.rows.asserts ≡ []
  pub ends : w.rows.ends ≡ []
  pub sources : w.sources ≡ []

-- where a region starts, by the definition
region-is : (g : RegionText) (k : ℕ) (b : FlatBlockText) (es : List RegionEdge) → slice_get g.blocks k ≡ Some b
    → region_from g k es ≡ then_course (through_block g (place_of 0 k) (bit_of true) es no_course b) (through_all g (all_places (length g.blocks)))
unfolding region_from
region-is g k b es e = ap (λ (o : Option FlatBlockText). then_course (option_map_or (through_block g (place_of 0 k) (bit_of true) es no_course) o (comes_to no_course))
    (through_all g (all_places (length g.blocks)))) e

-- edges that lead on from a place of turn 0 lead to no earlier one
module _ (u : UnitText) (g : RegionText) (k b : ℕ) (l : b < k + 1) where
  not-there : (e : RegionEdge) → e.to ≡ next_place (place_of 0 k) e.to.block → (x : Bool) → is_place e.to (place_of 0 b) ≡ x → x ≡ false
  not-there e q false h = refl
  not-there e q true h =
      let z : Before (place_of 0 k) (place_of 0 b) = subst (Before (place_of 0 k)) (place-is e.to (place_of 0 b) h) (next-later (place_of 0 k) e.to q) in
      absurd (⊎_elim (λ y. omega (arith, y)) (λ y. clash y.1) z)
    where
      clash : k < b → ⊥
      clash y = omega (arith, y, l)

  none-there : (es : List RegionEdge) → Each (λ (e : RegionEdge). e.to ≡ next_place (place_of 0 k) e.to.block) es → edges_to (place_of 0 b) es ≡ []
  none-there [] h = refl
  none-there (e ∷ es) h =
      let z = not-there e h.0 (is_place e.to (place_of 0 b)) refl in
      ap (λ (x : Bool). if x then e ∷ edges_to (place_of 0 b) es else edges_to (place_of 0 b) es) z ∙ none-there es h.1

module _ (ns : List TermNode) (f : Naming) (name : UnitName) (r : Region) (ps : List PlaceState) (at : WalkPoint) (before now : Story) (b : FlatBlock) (x : RegionEdge) (xs : List RegionEdge)
    (h : IsStart ns f name r ps at before now b x xs) where
  abbrev u : UnitText
  u = process_by name f r.flat.now

  abbrev g : RegionText
  g = region_text f r

  abbrev p : RegionPlace
  p = place_of 0 at.block

  abbrev bt : FlatBlockText
  bt = flat_block_text f at.block b

  reg : RegionOf u g
  reg = region-of f name r h.region

  bat : BlockAt g.blocks at.block bt
  bat = block-at-text f r h.region at.block b h.block

  pub start-opened : (w : Walk) → IsFresh r ps w → IsOpened ns f name r w at before (start_here f at) b x xs no_course
  start-opened w k = record {
    region = h.region;
    stands = record {
      block = h.block;
      place = λ i. place_of (sym h.turns i) at.block;
      label = refl;
      turns = let z = h.turns in omega (arith, z);
    };
    midst = record {
      so_far = record {
        naming = h.naming;
        values = h.values;
        blocks = h.blocks;
        here_long = k.here.long;
        next_long = k.next.long;
        ahead = record {
          here = λ c l. subst (λ es. AreEdges ns before es []) (sym (k.here.none c)) tt;
          next = λ c. subst (λ es. AreEdges ns before es []) (sym (k.next.none c)) tt;
          last = λ t c l. refl;
        };
        few = refl;
        insts = k.insts;
        rows = record {
          probes = k.probes;
          drives = subst (λ ds. AreDrives ns ds []) (sym k.drives) tt;
          asserts = subst (λ ts. AreTerms ns ts []) (sym k.asserts) tt;
          ends = subst (λ es. AreEnds ns es []) (sym k.ends) tt;
        };
        sources = subst (λ es. AreEdges ns before es []) (sym k.sources) tt;
      };
      now = now;
      continues = h.continues;
      was = h.was;
      is = h.is;
      places = h.places ∙ sym (ap length k.places);
      tells = subst (λ qs. Tells ns qs now.told) (sym k.places) h.tells;
      known = h.known;
      cond = h.cond;
      condition = bit-condition true;
    };
    edges = ⊎_elim inl (λ a. inr (subst (λ qs. AreEdges ns before (edges_at qs at.place) (x ∷ xs)) (sym k.places) a)) h.edges;
    join = h.join;
  }

  pub start-treat : (w : Walk) → IsFresh r ps w → CanTreat ns r w at
  start-treat w k = record { naming = f; name = name; before = before; here = start_here f at; block = b; first = x; more = xs; course = no_course; opened = start-opened w k }

  -- what the definition comes to
  from-is : region_from g at.block (x ∷ xs) ≡ then_course (through_block g p (bit_of true) (x ∷ xs) no_course bt) (through_all g (all_places (length r.flat.now.blocks)))
  from-is = region-is g at.block bt (x ∷ xs) bat.at ∙ ap (λ n. then_course (through_block g p (bit_of true) (x ∷ xs) no_course bt) (through_all g (all_places n))) (read-long f 0 r.flat.now.blocks)

  module _ (w : Walk) (k : IsFresh r ps w) (ms : List TermNode) (q : Walk) (t : Treats ns r w at ms q) where
    -- the course after the first place
    pub record Placed : Type 0 where
      pub story : Story
      pub course : Course
      pub is : through_block g p (bit_of true) (x ∷ xs) no_course bt ≡ comes_to course
      pub turn : IsTurn ms f name r q 0 (at.block + 1) story course

    pub placed : Placed
    placed =
        let y = t f name before (start_here f at) b x xs no_course (start-opened w k) in
        let d = Courses.treated u g reg p (bit_of true) (x ∷ xs) no_course bt y.1 y.2 in
        let a = subst (Courses.Adds u g reg p bt bat (bit_of true) (bit-condition true) x xs h.join (Courses.start_at u g reg (x ∷ xs) no_course bt)) (sym d.is)
        (Courses.place-adds u g reg p bt bat (bit_of true) (bit-condition true) x xs h.join no_course) in
        record {
          story = y.0;
          course = y.1;
          is = y.2;
          turn = record {
            walk = record {
              region = h.region;
              course = subst (λ i. IsCourse ms f r q i (at.block + 1) y.0 y.1) h.turns y.3;
              fine = Courses.place-fine u g reg p bt bat (bit_of true) (bit-condition true) x xs h.join no_course y.1 (Courses.no-course-fine u g reg) d;
              named = named-place u g reg p (bit_of true) x xs no_course y.1 bt bat.at h.named (record { edges = tt; ends = tt }) y.2;
            };
            none = λ c l. ap (edges_to (place_of 0 c)) (d.edges ∙ a.edges.1) ∙ none-there u g at.block c l a.edges.0 (new-edges a.edges.0 a.edges.2);
          };
        }
      where
        new-edges : (es : List RegionEdge) → Each (EdgeRight u g (Courses.here_at u g reg p (bit_of true) bt)) es → Each (λ (e : RegionEdge). e.to ≡ next_place (place_of 0 at.block) e.to.block) es
        new-edges [] a = tt
        new-edges (e ∷ es) a = (a.0.place, new-edges es a.1)

    pub placed-turn : CanTurn ms r q 0 (at.block + 1)
    placed-turn = record { naming = f; name = name; story = placed.story; course = placed.course; turn = placed.turn }

    from-placed : region_from g at.block (x ∷ xs) ≡ through_all g (all_places (length r.flat.now.blocks)) placed.course
    from-placed = from-is ∙ ap (λ (y : Coursed). then_course y (through_all g (all_places (length r.flat.now.blocks)))) placed.is

-- the first place, and then all turns
pub goes-through : (ns : List TermNode) (r : Region) (ps : List PlaceState) (at : WalkPoint) (w : Walk) → IsFresh r ps w → (ms : List TermNode) (q : Walk) → Treats ns r w at ms q → (os : List TermNode) (z : Walk)
    → PassesAll (turns_at ms r q 0 (at.block + 1)) r os z → GoesThrough ns r ps at os z
goes-through ns r ps at w k ms q t os z a f name before now b x xs h =
    let d = placed ns f name r ps at before now b x xs h w k ms q t in
    let y = a f name d.story d.course d.turn in
    (y.0, (y.1.0, y.1.1, from-placed ns f name r ps at before now b x xs h w k ms q t ∙ y.1.2, y.1.3))

pub goes-not-first : (ns : List TermNode) (r : Region) (ps : List PlaceState) (at : WalkPoint) (w : Walk) → IsFresh r ps w → (e : RegionFault) → TreatsNot ns r w at e → GoesNot ns r ps at e
goes-not-first ns r ps at w k e t f name before now b x xs h =
    by (refusal_of e) (t f name before (start_here f at) b x xs no_course (start-opened ns f name r ps at before now b x xs h w k))
  where
    by : (o : Option RegionRefusal) → StopsFor (treated f r at (start_here f at) b (x ∷ xs) no_course) o → StopsFor (region_from (region_text f r) at.block (x ∷ xs)) o
    by None s = tt
    by (Some y) s = from-is ns f name r ps at before now b x xs h ∙ ap (λ (c : Coursed). then_course c (through_all (region_text f r) (all_places (length r.flat.now.blocks)))) s

pub goes-not-later : (ns : List TermNode) (r : Region) (ps : List PlaceState) (at : WalkPoint) (w : Walk) → IsFresh r ps w → (ms : List TermNode) (q : Walk) → Treats ns r w at ms q → (e : RegionFault)
    → Stops (turns_at ms r q 0 (at.block + 1)) r (all_places (length r.flat.now.blocks)) e → GoesNot ns r ps at e
goes-not-later ns r ps at w k ms q t e a f name before now b x xs h =
    let d = placed ns f name r ps at before now b x xs h w k ms q t in
    subst (λ (y : Coursed). StopsFor y (refusal_of e)) (sym (from-placed ns f name r ps at before now b x xs h w k ms q t)) (a f name d.story d.course d.turn)

-- ---- some start

pub start-can : (ns : List TermNode) (r : Region) (ps : List PlaceState) (at : WalkPoint) (w : Walk) → IsFresh r ps w → CanStart ns r ps at → CanTreat ns r w at
start-can ns r ps at w k a = start-treat ns a.naming a.name r ps at a.before a.now a.block a.first a.more a.start w k

pub start-turn : (ns : List TermNode) (r : Region) (ps : List PlaceState) (at : WalkPoint) (w : Walk) → IsFresh r ps w → CanStart ns r ps at → (ms : List TermNode) (q : Walk) → Treats ns r w at ms q
    → CanTurn ms r q 0 (at.block + 1)
start-turn ns r ps at w k a ms q t = placed-turn ns a.naming a.name r ps at a.before a.now a.block a.first a.more a.start w k ms q t

get-within : (bs : List FlatBlock) (k : ℕ) (b : FlatBlock) → slice_get bs k ≡ Some b → k + 1 ≤ length bs
get-within [] k b e = absurd (none-some b e)
get-within (c ∷ bs) zero b e = omega arith
get-within (c ∷ bs) (suc k) b e = omega (arith, get-within bs k b e)

pub start-within : (ns : List TermNode) (r : Region) (ps : List PlaceState) (at : WalkPoint) → CanStart ns r ps at → at.block + 1 ≤ length r.flat.now.blocks
start-within ns r ps at a = get-within r.flat.now.blocks at.block a.block a.start.block

pub fresh : (r : Region) (ps : List PlaceState) (w : Walk) (n : ℕ) → n ≡ length r.flat.now.blocks → w.places.items ≡ ps → LeadsNowhere n w.ahead.here.items → LeadsNowhere n w.ahead.next.items
    → w.insts ≡ 0 → w.rows.probes ≡ [] → w.rows.drives ≡ [] → w.rows.asserts ≡ [] → w.rows.ends ≡ [] → w.sources ≡ [] → IsFresh r ps w
fresh r ps w n e places here next insts probes drives asserts ends sources = record {
  places = places;
  here = subst (λ k. LeadsNowhere k w.ahead.here.items) e here;
  next = subst (λ k. LeadsNowhere k w.ahead.next.items) e next;
  insts = insts;
  probes = probes;
  drives = drives;
  asserts = asserts;
  ends = ends;
  sources = sources;
}
