-- The second region starts where all ends of the first one wait, by the values that parts had before.
use Rattle.std.proofs.Common.{◌≡◌, inr, ℕ, ◌+◌, ◌<◌, true, false, List, [], ◌∷◌, length, Option, Some, None, slice_get, refl, ap, sym, ◌∙◌, subst, arith}
use Rattle.std.proofs.lemmas.Option.{slice_get_within}
use Rattle.lh_unit_names.specs.declared.name.UnitName.{UnitName}
use Rattle.lh_unit.specs.Contents.{UnitText}
use Rattle.lh_unit.specs.Naming.{Naming}
use Rattle.lh_unit.specs.Within.{Each}
use Rattle.lh_flat_laws.specs.Formed.{IsFormed}
use Rattle.lh_flat.specs.declared.flat.FlatBlock.{FlatBlock}
use Rattle.lh_flat.specs.Below.{IdsBelow}
use Rattle.lh_flat.specs.Flat.{FlatText, flat_unit, as_block}
use Rattle.lh_flat.specs.Reads.{flat_block_text, flat_blocks_text, flat_text}
use Rattle.lh_flat.proofs.NumberNames.{read-long}
use Rattle.lh_flat_parts.specs.Steps.{IsPartTable}
use Rattle.lh_term.specs.Tree.{past_of, now_of}
use Rattle.lh_term.specs.Make.{bit_of}
use Rattle.lh_term.specs.Arena.{StandsForTree, Grows}
use Rattle.lh_term.specs.declared.term.TermNode.{TermNode}
use Rattle.lh_region_def.specs.Rows as text
use Rattle.lh_region_def.specs.Joins.{RegionEdge, joined}
use Rattle.lh_region_def.specs.Regions.{begins_with_phi, lines_at, head_of, edges_of_ends, waits_for, RegionRefusal, Course, Coursed, comes_to, then_course, region_from, first_region, second_region}
use Rattle.lh_region_def.specs.Typed.{JoinEdge}
use Rattle.lh_region_def.proofs.Courses.{coursed-is}
use Rattle.lh_region_laws.proofs.Second as Before
use Rattle.lh_region_joins.specs.declared.edge.Edge.{Edge}
use Rattle.lh_region_places.specs.declared.state.PlaceState.{PlaceState}
use Rattle.lh_region_walk.specs.declared.walk.Region.{Region}
use Rattle.lh_region_walk.specs.declared.walk.Walk.{Walk}
use Rattle.lh_region_walk.specs.declared.walk.WalkPoint.{WalkPoint}
use Rattle.lh_region.specs.declared.rows.RegionFault.{RegionFault}
use Rattle.lh_region_places.specs.Asked.{edges_at}
use Rattle.lh_region.specs.Begins.{with_place, IsBegun, BeginsJoined}
use Rattle.lh_region.specs.Effects.{probed}
use Rattle.lh_region.specs.Forms.{Names}
use Rattle.lh_region.specs.Heads.{head_in}
use Rattle.lh_region_walk.specs.Named.{EdgesNamed, CourseNamed}
use Rattle.lh_region.specs.Stands.{refusal_of}
use Rattle.lh_region.specs.Walking.{Story, TellsKnown, AreEdges}
use Rattle.lh_region_walk.specs.Walked.{process_by, region_text, IsRegion, StopsFor}
use Rattle.lh_region_walk.specs.Turns.{IsWalk, IsStart, CanStart, GoesThrough, GoesNot}
use Rattle.lh_region_walk.specs.Both.{GoesFirst, FirstStops, SecondPlaceIsBehind, IsTarget, HasTarget, SecondRows, SecondStops}
use Rattle.lh_region_walk.proofs.First.{formed, plain, head-same}
use Rattle.lh_region.proofs.LeadingEdges.{edges-grown}
use Rattle.lh_region_places.proofs.ToldValues.{tells-grown}
use Rattle.lh_region_walk.proofs.Regional.{block-at-text}
use Rattle.lh_region_walk.proofs.PlaceStarts.{can-begin}
use Rattle.lh_region_walk.proofs.Reached.{block-there, edges-last}
use Rattle.lh_region_walk.proofs.DriveTypes.{drives-fit}
use Rattle.lh_region_walk.proofs.NamedCourse.{named-ends}

-- edges by ids are those of the ends, into whatever block
into-block : (ns : List TermNode) (s : Story) (es : List Edge) (xs : List text.RegionEnd) (i j : ℕ) → AreEdges ns s es (edges_of_ends i xs) → AreEdges ns s es (edges_of_ends j xs)
into-block ns s [] [] i j h = tt
into-block ns s [] (x ∷ xs) i j h = absurd h
into-block ns s (e ∷ es) [] i j h = absurd h
into-block ns s (e ∷ es) (x ∷ xs) i j h = (record { within = h.0.within; of_text = h.0.of_text; block = h.0.block; cond = h.0.cond; told = h.0.told }, into-block ns s es xs i j h.1)

-- the same region, with other choices
pub region-like : (f : Naming) (r q : Region) → q.flat ≡ r.flat → q.parts ≡ r.parts → q.head ≡ r.head → IsRegion f r → IsRegion f q
region-like f r q flat parts head h = record {
  names = subst (λ x. Names x.now f) (sym flat) h.names;
  below = subst (λ x. IdsBelow x.now) (sym flat) h.below;
  table = subst (λ x. IsPartTable q.flat.now x.now) (sym parts) (subst (λ x. IsPartTable x.now r.parts.now) (sym flat) h.table);
  head = head ∙ h.head ∙ (λ i. head_in (sym flat i).now.blocks);
  plain = λ b e. h.plain b (sym (λ i. slice_get (flat i).now.blocks (head i)) ∙ e);
}

module _ (f : Naming) (name : UnitName) (r : Region) (h : IsRegion f r) (target : ℕ) (it : IsTarget f r target) (d : Course) (before : first_region (flat_text f r.flat.now) past_of ≡ comes_to d) where
  abbrev pub u : UnitText
  u = process_by name f r.flat.now

  abbrev pub t : FlatText
  t = flat_text f r.flat.now

  form : IsFormed (flat_unit name t)
  form = formed f name r h

  flat-plain : begins_with_phi (lines_at t.blocks (head_of t.blocks)) ≡ false
  flat-plain = plain f name r h

  -- the first region by the values before
  past-is : Before.past name t form flat-plain it.course it.comes target it.one ≡ d
  past-is = coursed-is (Before.past name t form flat-plain it.course it.comes target it.one) d (sym (Before.past-comes name t form flat-plain it.course it.comes target it.one) ∙ before)

  ends-waits : Each (λ (x : text.RegionEnd). waits_for x.way ≡ Some target) d.rows.ends
  ends-waits = subst (λ (c : Course). Each (λ (x : text.RegionEnd). waits_for x.way ≡ Some target) c.rows.ends) past-is (Before.past-waits name t form flat-plain it.course it.comes target it.one)

  ends-right : Each (Before.RightEnd name t form flat-plain it.course it.comes target it.one) d.rows.ends
  ends-right = subst (λ (c : Course). Each (Before.RightEnd name t form flat-plain it.course it.comes target it.one) c.rows.ends) past-is
      (Before.past-ends name t form flat-plain it.course it.comes target it.one)

  ends-some : d.rows.ends ≡ [] → ⊥
  ends-some e = Before.some-end name t form flat-plain it.course it.comes target it.one (ap (λ (c : Course). c.rows.ends) past-is ∙ e)

  -- the block where they wait
  pub record Target : Type 0 where
    pub block : FlatBlock
    pub at : slice_get r.flat.now.blocks target ≡ Some block
    pub first : RegionEdge
    pub more : List RegionEdge
    pub are : edges_of_ends target d.rows.ends ≡ first ∷ more
    pub join : Each (JoinEdge u (as_block (flat_block_text f target block))) (first ∷ more)

  pub target-of : Target
  target-of = by d.rows.ends refl ends-right ends-waits
    where
      by : (xs : List text.RegionEnd) → d.rows.ends ≡ xs → Each (Before.RightEnd name t form flat-plain it.course it.comes target it.one) xs
          → Each (λ (x : text.RegionEnd). waits_for x.way ≡ Some target) xs → Target
      by [] e right waits = absurd (ends-some e)
      by (x ∷ xs) e right waits =
          let j = Before.way-joins u (Before.first_of name t form past_of) x.way target x.from x.known waits.0 right.0.way in
          let l : target < length r.flat.now.blocks = subst (λ n. target < n) (read-long f 0 r.flat.now.blocks) (slice_get_within (flat_blocks_text f 0 r.flat.now.blocks) target j.0 j.1.at) in
          let b = block-there r.flat.now.blocks target l in
          record {
            block = b.0;
            at = b.1;
            first = _;
            more = _;
            are = ap (edges_of_ends target) e;
            join = Before.all-join name t form flat-plain it.course it.comes target it.one (flat_block_text f target b.0) (block-at-text f r h target b.0 b.1) (x ∷ xs) right waits;
          }

  abbrev pub xs : List RegionEdge
  xs = target-of.first ∷ target-of.more

  -- the second region starts at one more place, to which the ends lead
  pub second-start : (past again : Region) → again.flat ≡ r.flat → again.parts ≡ r.parts → again.head ≡ r.head → past.flat ≡ r.flat → (ns ms : List TermNode) (w : Walk) (turns : ℕ) (s : Story)
      → IsWalk ns f name past w turns 0 s d → Grows ns ms
      → (qs : List PlaceState) (at : WalkPoint) → IsBegun w.places.items target w.sources qs → BeginsJoined w.places.items w.sources qs → at.place ≡ length w.places.items → at.block ≡ target
      → at.turns ≡ 0 → StandsForTree ms at.cond (bit_of true)
      → IsStart ms f name again qs at s (with_place s (joined xs)) target-of.block target-of.first target-of.more
  second-start past again flat parts head past_flat ns ms w turns s k g qs at begun joins place block at_turns cond =
      let edges0 : AreEdges ns s w.sources xs = subst (AreEdges ns s w.sources) target-of.are (into-block ns s w.sources d.rows.ends 0 target k.course.so_far.sources) in
      let edges1 = edges-grown ns ms s w.sources xs g edges0 in
      let named : EdgesNamed u xs = subst (EdgesNamed u) target-of.are (named-ends u target d.rows.ends (subst (λ x. CourseNamed (process_by name f x.now) d) past_flat k.named).ends) in
      let j = joins ms s target-of.first target-of.more (tells-grown ns ms w.places.items s.told g k.course.tells) k.course.places edges1
      (can-begin u (as_block (flat_block_text f target target-of.block)) s xs target-of.join named) in
      let place_is : s.places ≡ at.place = k.course.places ∙ sym place in
      record {
        region = region-like f r again flat parts head h;
        block = subst (λ n. slice_get again.flat.now.blocks n ≡ Some target-of.block) (sym block) (subst (λ x. slice_get x.now.blocks target ≡ Some target-of.block) (sym flat) target-of.at);
        turns = at_turns;
        naming = k.course.so_far.naming;
        values = k.course.so_far.values ∙ (λ i. (past_flat i).now.values) ∙ sym (λ i. (flat i).now.values);
        blocks = k.course.so_far.blocks ∙ (λ i. length (past_flat i).now.blocks) ∙ sym (λ i. length (flat i).now.blocks);
        continues = record { naming = refl; values = refl; blocks = refl; places = omega arith; known = j.before };
        was = place_is;
        is = ap (λ n. n + 1) place_is;
        places = j.count;
        tells = j.tells;
        known = subst (λ n. TellsKnown (with_place s (joined xs)) n (joined xs)) place_is j.known;
        cond = cond;
        edges = inr (subst (λ es. AreEdges ms s es xs) (sym (ap (edges_at qs) place ∙ edges-last w.places.items qs target w.sources begun)) edges1);
        join = subst (λ x. Each (JoinEdge (process_by name f x.now) (as_block (flat_block_text f at.block target-of.block))) xs) (sym flat)
            (subst (λ n. Each (JoinEdge u (as_block (flat_block_text f n target-of.block))) xs) (sym block) target-of.join);
        named = subst (λ x. EdgesNamed (process_by name f x.now) xs) (sym flat) named;
      }

  -- the second region of the definition
  pub second-is : (again : Region) → again.flat ≡ r.flat → again.head ≡ r.head → again.is_past ≡ false → again.ends_at_head ≡ true
      → second_region t target ≡ region_from (region_text f again) target xs
  second-is again flat head now ends =
      ap (λ (x : Coursed). then_course x (λ (c : Course). region_from (record { blocks = t.blocks; head = head_of t.blocks; probe = now_of; ends_at_head = true }) target
      (edges_of_ends target c.rows.ends))) before
      ∙ ap (region_from (record { blocks = t.blocks; head = head_of t.blocks; probe = now_of; ends_at_head = true }) target) target-of.are
      ∙ (λ i. region_from (record { blocks = (flat_text f (sym flat i).now).blocks; head = (head-same f name r h ∙ sym head) i; probe = probed (sym now i); ends_at_head = sym ends i }) target xs)

-- ---- all names

-- the place with which the second region starts, behind the places of the first one
pub record IsNextPlace (past again r : Region) (target : ℕ) (ns ms : List TermNode) (w : Walk) (qs : List PlaceState) (at : WalkPoint) : Type 0 where
  pub flat : again.flat ≡ r.flat
  pub parts : again.parts ≡ r.parts
  pub head : again.head ≡ r.head
  pub now : again.is_past ≡ false
  pub ends_there : again.ends_at_head ≡ true
  pub past_flat : past.flat ≡ r.flat
  pub past_parts : past.parts ≡ r.parts
  pub past_head : past.head ≡ r.head
  pub past_is : past.is_past ≡ true
  pub grows : Grows ns ms
  pub behind : SecondPlaceIsBehind w target ms qs at

-- the region by the values before, and the one that ends at its head
abbrev pub past-of : Region → Region
past-of r = record { flat = r.flat; parts = r.parts; head = r.head; is_past = true; ends_at_head = r.ends_at_head }

abbrev pub again-of : Region → Region
again-of r = record { flat = r.flat; parts = r.parts; head = r.head; is_past = r.is_past; ends_at_head = true }

pub next-place : (r : Region) (target : ℕ) (ns ms : List TermNode) (w : Walk) (qs : List PlaceState) (at : WalkPoint) → r.is_past ≡ false → Grows ns ms → SecondPlaceIsBehind w target ms qs at → IsNextPlace (past-of r) (again-of r) r target ns ms w qs at
next-place r target ns ms w qs at now g b = record {
  flat = refl;
  parts = refl;
  head = refl;
  now = now;
  ends_there = refl;
  past_flat = refl;
  past_parts = refl;
  past_head = refl;
  past_is = refl;
  grows = g;
  behind = b;
}

module _ (past again r : Region) (target : ℕ) (ns ms : List TermNode) (w : Walk) (qs : List PlaceState) (at : WalkPoint) (k : IsNextPlace past again r target ns ms w qs at)
    (first : GoesFirst past ns w) where
  -- the first region by the values before
  record Walked (f : Naming) (name : UnitName) (h : IsRegion f r) : Type 0 where
    turns : ℕ
    story : Story
    course : Course
    is : first_region (flat_text f r.flat.now) past_of ≡ comes_to course
    walk : IsWalk ns f name past w turns 0 story course

  walked : (f : Naming) (name : UnitName) (h : IsRegion f r) → Walked f name h
  walked f name h =
      let x = first f name (region-like f r past k.past_flat k.past_parts k.past_head h) in
      record {
        turns = x.0;
        story = x.1.0;
        course = x.1.1;
        is = (λ i. first_region (flat_text f (sym k.past_flat i).now) (probed (sym k.past_is i))) ∙ x.1.2;
        walk = x.1.3;
      }

  abbrev target_in : (f : Naming) (name : UnitName) (h : IsRegion f r) (it : IsTarget f r target) → Target f name r h target it (walked f name h).course (walked f name h).is
  target_in f name h it = target-of f name r h target it (walked f name h).course (walked f name h).is

  starts : (f : Naming) (name : UnitName) (h : IsRegion f r) (it : IsTarget f r target)
      → IsStart ms f name again qs at (walked f name h).story (with_place (walked f name h).story (joined ((target_in f name h it).first ∷ (target_in f name h it).more))) (target_in f name h it).block
      (target_in f name h it).first (target_in f name h it).more
  starts f name h it =
      let x = walked f name h in
      second-start f name r h target it x.course x.is past again k.flat k.parts k.head k.past_flat ns ms w x.turns x.story x.walk k.grows qs at k.behind.begun k.behind.joins k.behind.place k.behind.block k.behind.turns k.behind.cond

  abbrev any_name : Naming → UnitName
  any_name f = f.unit_name 0

  pub can-follow : HasTarget r target → CanStart ms again qs at
  can-follow a =
      let f = a.naming in
      let name = any_name f in
      record {
        naming = f;
        name = name;
        before = (walked f name a.region).story;
        now = with_place (walked f name a.region).story (joined ((target_in f name a.region a.is).first ∷ (target_in f name a.region a.is).more));
        block = (target_in f name a.region a.is).block;
        first = (target_in f name a.region a.is).first;
        more = (target_in f name a.region a.is).more;
        start = starts f name a.region a.is;
      }

  -- what the definition comes to
  from-there : (f : Naming) (name : UnitName) (h : IsRegion f r) (it : IsTarget f r target)
      → second_region (flat_text f r.flat.now) target ≡ region_from (region_text f again) at.block ((target_in f name h it).first ∷ (target_in f name h it).more)
  from-there f name h it =
      let x = walked f name h in
      second-is f name r h target it x.course x.is again k.flat k.head k.now k.ends_there
      ∙ ap (λ b. region_from (region_text f again) b ((target_in f name h it).first ∷ (target_in f name h it).more)) (sym k.behind.block)

  pub second-through : (os : List TermNode) (z : Walk) → GoesThrough ms again qs at os z → SecondRows r target os z.rows
  second-through os z g f h it =
      let name = any_name f in
      let x = walked f name h in
      let y = target_in f name h it in
      let p = g f name x.story (with_place x.story (joined (y.first ∷ y.more))) y.block y.first y.more (starts f name h it) in
      (p.1.1, from-there f name h it ∙ p.1.2, p.1.3.course.so_far.rows, drives-fit os z.rows.drives p.1.1.rows.drives p.1.3.course.so_far.rows.drives p.1.3.fine.drives)

  pub second-stops : (e : RegionFault) → GoesNot ms again qs at e → SecondStops r target e
  second-stops e g f h it =
      let name = any_name f in
      let x = walked f name h in
      let y = target_in f name h it in
      subst (λ c. StopsFor c (refusal_of e)) (sym (from-there f name h it))
      (g f name x.story (with_place x.story (joined (y.first ∷ y.more))) y.block y.first y.more (starts f name h it))

-- where the first region stops by the values before, there is no second one
pub past-stops : (past r : Region) (target : ℕ) → past.flat ≡ r.flat → past.parts ≡ r.parts → past.head ≡ r.head → past.is_past ≡ true → (e : RegionFault) → FirstStops past e → SecondStops r target e
past-stops past r target flat parts head is e g f h it = by (refusal_of e) (g f (region-like f r past flat parts head h))
  where
    by : (o : Option RegionRefusal) → StopsFor (first_region (flat_text f past.flat.now) (probed past.is_past)) o → StopsFor (second_region (flat_text f r.flat.now) target) o
    by None k = tt
    by (Some y) k =
        ap (λ (x : Coursed). then_course x (λ (c : Course). region_from
        (record { blocks = (flat_text f r.flat.now).blocks; head = head_of (flat_text f r.flat.now).blocks; probe = now_of; ends_at_head = true }) target (edges_of_ends target c.rows.ends)))
        ((λ i. first_region (flat_text f (sym flat i).now) (probed (sym is i))) ∙ k)
