-- A place of a turn: where edges lead to it, it begins and is treated as in the definition; where none does, nothing is done.
use Rattle.std.proofs.Common.{◌≡◌, inr, ℕ, zero, suc, ◌+◌, ◌<◌, ◌≤◌, List, [], ◌∷◌, length, Option, Some, None, slice_get, refl, ap, sym, ◌∙◌, subst, arith}
use Rattle.std.specs.Option.{option_map_or}
use Rattle.lh_unit_names.specs.declared.name.UnitName.{UnitName}
use Rattle.lh_unit.specs.Contents.{BlockText, UnitText}
use Rattle.lh_unit.specs.Naming.{Naming}
use Rattle.lh_unit.specs.Within.{Each}
use Rattle.lh_types.proofs.Lists.{get_last}
use Rattle.lh_flat.specs.declared.flat.FlatBlock.{FlatBlock}
use Rattle.lh_flat.specs.Flat.{FlatBlockText, as_block}
use Rattle.lh_flat.specs.Reads.{flat_block_text}
use Rattle.lh_term.specs.Arena.{StandsForTree, Grows}
use Rattle.lh_term.specs.declared.term.TermNode.{TermNode}
use Rattle.lh_region_def.specs.Joins.{RegionPlace, RegionEdge, any_taken, joined}
use Rattle.lh_region_def.specs.Places.{Region as RegionText, Here}
use Rattle.lh_region_def.specs.Regions.{RegionRefusal, Course, Coursed, stops, comes_to, then_course, max_turns, through_block, edges_to, through_reached, through_all}
use Rattle.lh_region_def.specs.Typed.{JoinEdge}
use Rattle.lh_region_def.proofs.Steps.{RegionOf}
use Rattle.lh_region_def.proofs.MergedValues.{any-condition, EachCondition}
use Rattle.lh_region_def.proofs.Courses as Courses
use Rattle.lh_region_joins.specs.declared.edge.Edge.{Edge}
use Rattle.lh_region_joins.specs.Joins.{AreConditions, edges_on}
use Rattle.lh_region_joins.proofs.Merged.{taken-by-conditions}
use Rattle.lh_region_places.specs.declared.state.PlaceState.{PlaceState}
use Rattle.lh_region_walk.specs.declared.walk.Region.{Region}
use Rattle.lh_region_walk.specs.declared.walk.Walk.{Walk}
use Rattle.lh_region_walk.specs.declared.walk.WalkPoint.{WalkPoint}
use Rattle.lh_region.specs.declared.rows.RegionFault.{RegionFault}
use Rattle.lh_region.specs.Ahead.{led_to, BlockIsReached}
use Rattle.lh_region_places.specs.Asked.{edges_at, Tells}
use Rattle.lh_region.specs.Begins.{with_place, IsBegun, BeginsJoined, TellsJoined}
use Rattle.lh_region_walk.specs.Named.{EdgesNamed}
use Rattle.lh_region.specs.Stands.{AreRows, refusal_of}
use Rattle.lh_region.specs.Walking.{Story, TellsKnown, AreEdges, place_of, AreSources}
use Rattle.lh_region_walk.specs.Walked.{process_by, region_text, IsSoFar, IsCourse, IsOpened, CanTreat, treated, Treats, TreatsNot, StopsFor}
use Rattle.lh_region_walk.specs.Turns.{IsWalk, CanWalk, Comes, Passes, Stops, walks_at}
use Rattle.lh_region_places.proofs.PlaceLists.{edges-of}
use Rattle.lh_region_places.proofs.ToldValues.{tells-grown}
use Rattle.lh_region.proofs.LeadingEdges.{edges-grown}
use Rattle.lh_region.proofs.Begun.{edges-on, edges-conditions}
use Rattle.lh_region_walk.proofs.StoryLaws.{so-far-grown}
use Rattle.lh_region_walk.proofs.Regional.{region-of, block-at-text}
use Rattle.lh_region_walk.proofs.PlaceStarts.{can-begin}
use Rattle.lh_region_walk.proofs.NamedCourse.{named-reached, named-to}
use Rattle.lh_region_walk.proofs.PlaceTurns.{no-edges, some-edges, ahead-reached, one-none}

pub block-there : (bs : List FlatBlock) (k : ℕ) → k < length bs → (b : FlatBlock) × (slice_get bs k ≡ Some b)
block-there [] k l = absurd (omega (arith, l))
block-there (b ∷ bs) zero l = (b, refl)
block-there (b ∷ bs) (suc k) l = block-there bs k (omega (arith, l))

pub join-conditions : (b : BlockText) (u : UnitText) (es : List RegionEdge) → Each (JoinEdge u b) es → EachCondition es
join-conditions b u [] h = tt
join-conditions b u (e ∷ es) h = (h.0.cond, join-conditions b u es h.1)

-- the edges of the last place
pub edges-last : (ps qs : List PlaceState) (block : ℕ) (es : List Edge) → IsBegun ps block es qs → edges_at qs (length ps) ≡ es
edges-last ps qs block es b = edges-of qs (length ps) b.new (ap (λ (xs : List PlaceState). slice_get xs (length ps)) b.put ∙ get_last ps b.new) ∙ b.edges_are

-- what is so far where a place was reached
pub so-far-reached : (ns : List TermNode) (f : Naming) (r : Region) (w q : Walk) (turns block : ℕ) (s : Story) (c : Course) → IsSoFar ns f r w turns block s c
    → BlockIsReached w.ahead.here.items block q.ahead.here.items → q.ahead.next ≡ w.ahead.next → q.insts ≡ w.insts → q.rows ≡ w.rows → q.sources ≡ w.sources → IsSoFar ns f r q turns (block + 1) s c
so-far-reached ns f r w q turns block s c h reached next insts rows sources = record {
  naming = h.naming;
  values = h.values;
  blocks = h.blocks;
  here_long = reached.long ∙ h.here_long;
  next_long = (λ i. length (next i).items) ∙ h.next_long;
  ahead = ahead-reached ns s turns block w.ahead q.ahead c.edges h.ahead reached next;
  few = h.few;
  insts = insts ∙ h.insts;
  rows = subst (λ x. AreRows ns x c.rows) (sym rows) h.rows;
  sources = subst (λ x. AreSources ns s x c.rows.ends) (sym sources) h.sources;
}

-- no edge leads to the place
pub reached-none : (ns : List TermNode) (r : Region) (w q : Walk) (turns block : ℕ) → led_to w.ahead.here.items block ≡ [] → q.places ≡ w.places → BlockIsReached w.ahead.here.items block q.ahead.here.items
    → q.ahead.next ≡ w.ahead.next → q.insts ≡ w.insts → q.rows ≡ w.rows → q.sources ≡ w.sources
    → Passes (walks_at ns r w turns block) r (place_of turns block ∷ []) ns q turns (block + 1)
reached-none ns r w q turns block none places reached next insts rows sources f name s c h =
    let k = h.course in
    let e = no-edges ns s (led_to w.ahead.here.items block) (edges_to (place_of turns block) c.edges) none (k.so_far.ahead.here block (omega arith)) in (
      s,
      c,
      one-none (region_text f r) (place_of turns block) c e,
      record {
        region = h.region;
        course = record {
          so_far = so-far-reached ns f r w q turns block s c k.so_far reached next insts rows sources;
          places = k.places ∙ sym (λ i. length (places i).items);
          tells = subst (λ ps. Tells ns ps.items s.told) (sym places) k.tells;
        };
        fine = h.fine;
        named = h.named;
      },
    )

-- ---- some edges lead to the place

-- a place that begins: its edges, and the condition on which control is there
pub record PlaceBegins (ns ms : List TermNode) (w q : Walk) (turns block : ℕ) (at : WalkPoint) : Type 0 where
  pub some : led_to w.ahead.here.items block ≡ [] → ⊥
  pub reached : BlockIsReached w.ahead.here.items block q.ahead.here.items
  pub next : q.ahead.next ≡ w.ahead.next
  pub insts : q.insts ≡ w.insts
  pub rows : q.rows ≡ w.rows
  pub sources : q.sources ≡ w.sources
  pub grows : Grows ns ms
  pub begun : IsBegun w.places.items block (led_to w.ahead.here.items block) q.places.items
  pub joined : BeginsJoined w.places.items (led_to w.ahead.here.items block) q.places.items
  pub place : at.place ≡ length w.places.items
  pub of_block : at.block ≡ block
  pub of_turns : at.turns ≡ turns
  pub cond : StandsForTree ms at.cond (any_taken (edges_on ns (led_to w.ahead.here.items block)))

module _ (ns : List TermNode) (f : Naming) (name : UnitName) (r : Region) (w : Walk) (turns block : ℕ) (s : Story) (c : Course) (h : IsWalk ns f name r w turns block s c)
    (l : block < length r.flat.now.blocks) (some : led_to w.ahead.here.items block ≡ [] → ⊥) where
  abbrev u : UnitText
  u = process_by name f r.flat.now

  abbrev g : RegionText
  g = region_text f r

  abbrev es : List Edge
  es = led_to w.ahead.here.items block

  abbrev p : RegionPlace
  p = place_of turns block

  reg : RegionOf u g
  reg = region-of f name r h.region

  -- the block, and the edges of the definition
  pub record There : Type 0 where
    pub block_is : FlatBlock
    pub at : slice_get r.flat.now.blocks block ≡ Some block_is
    pub first : RegionEdge
    pub more : List RegionEdge
    pub are : edges_to p c.edges ≡ first ∷ more
    pub edges : AreEdges ns s es (first ∷ more)
    pub join : Each (JoinEdge u (as_block (flat_block_text f block block_is))) (first ∷ more)
    pub named : EdgesNamed u (first ∷ more)

  pub there : There
  there =
      let b = block-there r.flat.now.blocks block l in
      let a = h.course.so_far.ahead.here block (omega arith) in
      let x = some-edges ns s es (edges_to p c.edges) some a in
      let j = Courses.all-join u g reg p (flat_block_text f block b.0) (block-at-text f r h.region block b.0 b.1) c.edges h.fine.edges in
      record {
        block_is = b.0;
        at = b.1;
        first = x.0;
        more = x.1;
        are = x.2;
        edges = subst (AreEdges ns s es) x.2 a;
        join = subst (Each (JoinEdge u (as_block (flat_block_text f block b.0)))) x.2 j;
        named = subst (EdgesNamed u) x.2 (named-to u p c.edges h.named.edges);
      }

  abbrev xs : List RegionEdge
  xs = there.first ∷ there.more

  conds : EachCondition xs
  conds = join-conditions (as_block (flat_block_text f block there.block_is)) u xs there.join

  pub edge-conditions : AreConditions ns es
  edge-conditions = edges-conditions ns s es xs there.edges conds

  -- what the definition comes to by the place
  pub reached-is : through_all g (p ∷ []) c ≡ then_course (through_block g p (any_taken xs) xs c (flat_block_text f block there.block_is)) (through_all g [])
  reached-is =
      ap (λ (ys : List RegionEdge). then_course (through_reached g p ys c) (through_all g [])) there.are
      ∙ ap (λ (o : Option FlatBlockText). then_course (option_map_or (through_block g p (any_taken xs) xs c) o (comes_to c)) (through_all g [])) (block-at-text f r h.region block there.block_is
      there.at).at

  abbrev pub here : Here
  here = record { place = p; label = f.label_name block; cond = any_taken xs }

  module _ (ms : List TermNode) (q : Walk) (at : WalkPoint) (b : PlaceBegins ns ms w q turns block at) (lt : turns ≤ max_turns) where
    edges-still : AreEdges ms s es xs
    edges-still = edges-grown ns ms s es xs b.grows there.edges

    begun : TellsJoined ms q.places.items s xs
    begun = b.joined ms s there.first there.more (tells-grown ns ms w.places.items s.told b.grows h.course.tells) h.course.places edges-still
        (can-begin u (as_block (flat_block_text f block there.block_is)) s xs there.join there.named)

    place-is : s.places ≡ at.place
    place-is = h.course.places ∙ sym b.place

    cond-is : StandsForTree ms at.cond (any_taken xs)
    cond-is = subst (StandsForTree ms at.cond) (ap any_taken (edges-on ns s es xs there.edges) ∙ sym (taken-by-conditions xs)) b.cond

    pub opened : IsOpened ms f name r q at s here there.block_is there.first there.more c
    opened = record {
      region = h.region;
      stands = record {
        block = subst (λ k. slice_get r.flat.now.blocks k ≡ Some there.block_is) (sym b.of_block) there.at;
        place = λ i. place_of (sym b.of_turns i) (sym b.of_block i);
        label = λ i. f.label_name (sym b.of_block i);
        turns = subst (λ k. k ≤ max_turns) (sym b.of_turns) lt;
      };
      midst = record {
        so_far = subst (λ t. IsSoFar ms f r q t (at.block + 1) s c) (sym b.of_turns) (subst (λ k. IsSoFar ms f r q turns (k + 1) s c) (sym b.of_block)
            (so-far-grown ns ms f r q turns (block + 1) s c b.grows (so-far-reached ns f r w q turns block s c h.course.so_far b.reached b.next b.insts b.rows b.sources)));
        now = with_place s (joined xs);
        continues = record { naming = refl; values = refl; blocks = refl; places = omega arith; known = begun.before };
        was = place-is;
        is = ap (λ k. k + 1) place-is;
        places = begun.count;
        tells = begun.tells;
        known = subst (λ k. TellsKnown (with_place s (joined xs)) k (joined xs)) place-is begun.known;
        cond = cond-is;
        condition = any-condition xs conds;
      };
      edges = inr (subst (λ ys. AreEdges ms s ys xs) (sym (ap (edges_at q.places.items) b.place ∙ edges-last w.places.items q.places.items block es b.begun)) edges-still);
      join = subst (λ k. Each (JoinEdge u (as_block (flat_block_text f k there.block_is))) xs) (sym b.of_block) there.join;
    }

    pub can-treat : CanTreat ms r q at
    can-treat = record { naming = f; name = name; before = s; here = here; block = there.block_is; first = there.first; more = there.more; course = c; opened = opened }

    treated-is : treated f r at here there.block_is xs c ≡ through_block g p (any_taken xs) xs c (flat_block_text f block there.block_is)
    treated-is = λ i. through_block g p (any_taken xs) xs c (flat_block_text f (b.of_block i) there.block_is)

    -- the place is treated
    pub passes-place : (os : List TermNode) (z : Walk) → Treats ms r q at os z → Comes os f name r z turns (block + 1) (through_all g (p ∷ []) c)
    passes-place os z t =
        let y = t f name s here there.block_is there.first there.more c opened in
        let e : through_block g p (any_taken xs) xs c (flat_block_text f block there.block_is) ≡ comes_to y.1 = sym treated-is ∙ y.2 in
        let a : through_all g (p ∷ []) c ≡ comes_to y.1 = reached-is ∙ ap (λ (x : Coursed). then_course x (through_all g [])) e in
        let d : through_reached g p (edges_to p c.edges) c ≡ comes_to y.1 = one-course (through_reached g p (edges_to p c.edges) c) y.1 a in (
          y.0,
          y.1,
          a,
          record {
            region = h.region;
            course = subst (λ t. IsCourse os f r z t (block + 1) y.0 y.1) b.of_turns (subst (λ k. IsCourse os f r z at.turns (k + 1) y.0 y.1) b.of_block y.3);
            fine = Courses.step-fine u g reg p c y.1 h.fine d;
            named = named-reached u g reg p c y.1 h.named d;
          },
        )
      where
        one-course : (x : Coursed) (d : Course) → then_course x (through_all g []) ≡ comes_to d → x ≡ comes_to d
        one-course (stops o) d e = e
        one-course (comes_to o) d e = e

    -- the definition stops there
    pub stops-place : (e : RegionFault) → TreatsNot ms r q at e → StopsFor (through_all g (p ∷ []) c) (refusal_of e)
    stops-place e t = by (refusal_of e) (t f name s here there.block_is there.first there.more c opened)
      where
        by : (o : Option RegionRefusal) → StopsFor (treated f r at here there.block_is xs c) o → StopsFor (through_all g (p ∷ []) c) o
        by None k = tt
        by (Some y) k = reached-is ∙ ap (λ (x : Coursed). then_course x (through_all g [])) (sym treated-is ∙ k)

-- ---- any walk

module _ (ns : List TermNode) (r : Region) (w : Walk) (turns block : ℕ) (l : block < length r.flat.now.blocks) (some : led_to w.ahead.here.items block ≡ [] → ⊥) where
  -- the conditions of the edges are terms
  pub edges-can : CanWalk ns r w turns block → AreConditions ns (led_to w.ahead.here.items block)
  edges-can a = edge-conditions ns a.naming a.name r w turns block a.story a.course a.walk l some

  module _ (ms : List TermNode) (q : Walk) (at : WalkPoint) (b : PlaceBegins ns ms w q turns block at) (lt : turns ≤ max_turns) where
    pub treat-can : CanWalk ns r w turns block → CanTreat ms r q at
    treat-can a = can-treat ns a.naming a.name r w turns block a.story a.course a.walk l some ms q at b lt

    pub passes-block : (os : List TermNode) (z : Walk) → Treats ms r q at os z → Passes (walks_at ns r w turns block) r (place_of turns block ∷ []) os z turns (block + 1)
    passes-block os z t f name s c h = passes-place ns f name r w turns block s c h l some ms q at b lt os z t

    pub stops-block : (e : RegionFault) → TreatsNot ms r q at e → Stops (walks_at ns r w turns block) r (place_of turns block ∷ []) e
    stops-block e t f name s c h = stops-place ns f name r w turns block s c h l some ms q at b lt e t

-- what begins is the place to which these edges lead
pub begins-by : (ns ms : List TermNode) (w q : Walk) (turns block : ℕ) (at : WalkPoint) (into fs : List Edge) → into ≡ led_to w.ahead.here.items block → fs ≡ into → (led_to w.ahead.here.items block ≡ [] → ⊥)
    → BlockIsReached w.ahead.here.items block q.ahead.here.items → q.ahead.next ≡ w.ahead.next → q.insts ≡ w.insts → q.rows ≡ w.rows → q.sources ≡ w.sources → Grows ns ms
    → IsBegun w.places.items block into q.places.items → BeginsJoined w.places.items into q.places.items → at.place ≡ length w.places.items → at.block ≡ block → at.turns ≡ turns
    → StandsForTree ms at.cond (any_taken (edges_on ns fs)) → PlaceBegins ns ms w q turns block at
begins-by ns ms w q turns block at into fs e f some reached next insts rows sources grows begun joined place of_block of_turns cond = record {
  some = some;
  reached = reached;
  next = next;
  insts = insts;
  rows = rows;
  sources = sources;
  grows = grows;
  begun = subst (λ x. IsBegun w.places.items block x q.places.items) e begun;
  joined = subst (λ x. BeginsJoined w.places.items x q.places.items) e joined;
  place = place;
  of_block = of_block;
  of_turns = of_turns;
  cond = subst (λ x. StandsForTree ms at.cond (any_taken (edges_on ns x))) (f ∙ e) cond;
}

pub some-led : (into led : List Edge) (n : ℕ) → into ≡ led → n ≡ length into → (n ≡ 0 → ⊥) → led ≡ [] → ⊥
some-led into led n e l not f = not (l ∙ ap length (e ∙ f))
