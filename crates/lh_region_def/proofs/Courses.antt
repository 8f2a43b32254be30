-- The course of a region: each edge, end and drive that it comes to is right.
use Rattle.std.proofs.Common.{◌≡◌, ◌⊎◌, inl, inr, ⊎_elim, ℕ, ◌+◌, ◌≤◌, List, [], ◌∷◌, ◌++◌, length, Bool, true, false, ◌||◌, nat_lt, Option, Some, None, refl, ap, sym, ◌∙◌, subst, arith}
use Rattle.std.specs.Bool.{if◌then◌else◌}
use Rattle.std.specs.Prelude.{slice_get}
use Rattle.std.specs.Option.{option_map_or}
use Rattle.std.proofs.lemmas.Bool.{false≢true}
use Rattle.std.proofs.lemmas.Bool.Decides.{nat_tests}
use Rattle.std.proofs.lemmas.Option.{same_Some}
use Rattle.lh_unit.specs.Contents.{LineText, BlockText, UnitText}
use Rattle.lh_unit.specs.Within.{Each}
use Rattle.lh_unit.proofs.Lists.{Each-right, Each-append}
use Rattle.lh_unit.proofs.Within.{Each-more}
use Rattle.lh_flat.specs.Flat.{FlatBlockText, MergeText, with_merge, as_block}
use Rattle.lh_term.specs.Tree.{Tree}
use Rattle.lh_term.specs.Make.{bit_of}
use Rattle.lh_region_def.specs.Rows.{RegionEnd, Rows}
use Rattle.lh_region_def.specs.Joins.{RegionPlace, RegionEdge, any_taken, known_at}
use Rattle.lh_region_def.specs.Places.{Region, Here, Midst, takes_all}
use Rattle.lh_region_def.specs.Regions.{RegionRefusal, region_too_large, too_many_turns, Course, no_course, Coursed, stops, comes_to, then_course, max_turns, max_insts, turns_too_often, after_lines, through_block, is_place, edges_to, through_reached, through_all, all_places, region_from}
use Rattle.lh_region_def.specs.Typed.{Among, KnowsTyped, KnowsThere, IsCondition, JoinEdge}
use Rattle.lh_region_def.specs.Right as right
use Rattle.lh_region_def.specs.Right.{BlockAt, DriveTyped}
use Rattle.lh_flat_laws.proofs.Members.{in-each, each-among, filter-among}
use Rattle.lh_region_def.proofs.Sites.{LineGood, good-lines}
use Rattle.lh_region_def.proofs.MergedValues.{EachCondition, any-condition, bit-condition}
use Rattle.lh_region_def.proofs.Labels.{block-text}
use Rattle.lh_region_def.proofs.Phis.{known-typed-at, known-there-at, phis-given-at}
use Rattle.lh_region_def.proofs.Steps.{RegionOf, EdgeRight, EndRight, DriveRight}
use Rattle.lh_region_def.proofs.BlockLines as Leading
use Rattle.lh_region_def.proofs.Ordered.{place-is}

pub coursed-is : (c d : Course) → comes_to c ≡ comes_to d → c ≡ d
coursed-is c d e = cc

pub stops-not : {A : Type 0} (r : RegionRefusal) (d : Course) → stops r ≡ comes_to d → A
stops-not r d e = cc

merge-takes : (g : Region) (h : Here) (o : Option MergeText) (ls : List LineText) (m : Midst) → takes_all g h (with_merge o ls) m ≡ takes_all g h ls m
merge-takes g h None ls m = refl
merge-takes g h (Some x) ls m = refl

not-often : (es : List RegionEdge) → turns_too_often es ≡ false → Each (λ (e : RegionEdge). e.to.turns ≤ max_turns) es
not-often [] h = tt
not-often (e ∷ es) h = by (nat_lt max_turns e.to.turns) refl h (not-often es)
  where
    by : (b : Bool) → nat_lt max_turns e.to.turns ≡ b → (b || turns_too_often es) ≡ false → (turns_too_often es ≡ false → Each (λ (e : RegionEdge). e.to.turns ≤ max_turns) es)
        → Each (λ (e : RegionEdge). e.to.turns ≤ max_turns) (e ∷ es)
    by true q h go = absurd (false≢true (sym h))
    by false q h go = (grind (arith, nat_tests), go h)

module _ (u : UnitText) (g : Region) (r : RegionOf u g) where
  abbrev pub EdgeFine : RegionEdge → Type 0
  EdgeFine = right.EdgeFine u g

  abbrev pub EndFine : RegionEnd → Type 0
  EndFine = right.EndFine u g

  abbrev pub CourseFine : Course → Type 0
  CourseFine = right.CourseFine u g

  -- ---- a place

  abbrev pub here_at : RegionPlace → Tree → FlatBlockText → Here
  here_at p q b = record { place = p; label = b.label; cond = q }

  abbrev pub start_at : List RegionEdge → Course → FlatBlockText → Midst
  start_at es c b = record { known = known_at es (with_merge b.merge b.lines); edges = c.edges; rows = c.rows }

  -- what a place that was treated comes to
  pub record Treated (p : RegionPlace) (q : Tree) (es : List RegionEdge) (c : Course) (b : FlatBlockText) (c1 : Course) : Type 0 where
    pub midst : Midst
    pub is : midst ≡ takes_all g (here_at p q b) (with_merge b.merge b.lines) (start_at es c b)
    pub few : turns_too_often midst.edges ≡ false
    pub insts : c1.insts ≡ c.insts + length b.lines
    pub within : c1.insts ≤ max_insts
    pub edges : c1.edges ≡ midst.edges
    pub rows : c1.rows ≡ midst.rows

  pub treated : (p : RegionPlace) (q : Tree) (es : List RegionEdge) (c : Course) (b : FlatBlockText) (c1 : Course) → through_block g p q es c b ≡ comes_to c1 → Treated p q es c b c1
  treated p q es c b c1 e = by (nat_lt max_insts (c.insts + length b.lines)) refl e
    where
      at : (m : Midst) → m ≡ takes_all g (here_at p q b) b.lines (start_at es c b) → nat_lt max_insts (c.insts + length b.lines) ≡ false → (y : Bool) → turns_too_often m.edges ≡ y
          → (if y then stops too_many_turns else comes_to (record { insts = c.insts + length b.lines; edges = m.edges; rows = m.rows })) ≡ comes_to c1 → Treated p q es c b c1
      at m s w true z f = stops-not too_many_turns c1 f
      at m s w false z f =
          let same = coursed-is (record { insts = c.insts + length b.lines; edges = m.edges; rows = m.rows }) c1 f in
          record {
            midst = m;
            is = s ∙ sym (merge-takes g (here_at p q b) b.merge b.lines (start_at es c b));
            few = z;
            insts = ap (λ (x : Course). x.insts) (sym same);
            within = subst (λ (x : Course). x.insts ≤ max_insts) same (grind (arith, nat_tests));
            edges = ap (λ (x : Course). x.edges) (sym same);
            rows = ap (λ (x : Course). x.rows) (sym same);
          }

      by : (x : Bool) → nat_lt max_insts (c.insts + length b.lines) ≡ x
          → (if x then stops region_too_large else after_lines (c.insts + length b.lines) (takes_all g (here_at p q b) b.lines (start_at es c b))) ≡ comes_to c1 → Treated p q es c b c1
      by true w f = stops-not region_too_large c1 f
      by false w f = at (takes_all g (here_at p q b) b.lines (start_at es c b)) refl w (turns_too_often (takes_all g (here_at p q b) b.lines (start_at es c b)).edges) refl f

  module _ (p : RegionPlace) (b : FlatBlockText) (bat : BlockAt g.blocks p.block b) (q : Tree) (hc : IsCondition q) (e0 : RegionEdge) (more : List RegionEdge)
      (j : Each (JoinEdge u (as_block b)) (e0 ∷ more)) where
    pub sound-here : Each (LineGood u) (with_merge b.merge b.lines)
    sound-here = good-lines u r.formed p.block (as_block b) (ap (λ bs. slice_get bs p.block) r.blocks ∙ block-text g.blocks p.block b bat.at)

    abbrev pub Adds : Midst → Midst → Type 0
    Adds = Leading.Adds u g r p.block b bat (here_at p q b) refl hc

    pub start-typed : KnowsTyped u (known_at (e0 ∷ more) (with_merge b.merge b.lines))
    start-typed = known-typed-at u (as_block b) e0 more j sound-here

    pub start-there : KnowsThere u (as_block b) [] (known_at (e0 ∷ more) (with_merge b.merge b.lines))
    start-there = known-there-at u (as_block b) e0 more j sound-here

    -- what its lines add
    pub place-adds : (c : Course) → Adds (start_at (e0 ∷ more) c b) (takes_all g (here_at p q b) (with_merge b.merge b.lines) (start_at (e0 ∷ more) c b))
    place-adds c = Leading.lines-add u g r p.block b bat (here_at p q b) refl hc [] (with_merge b.merge b.lines) refl (start_at (e0 ∷ more) c b) start-typed start-there
        (phis-given-at u (as_block b) e0 more j sound-here)

    new-edges : (es : List RegionEdge) → Each (EdgeRight u g (here_at p q b)) es → Each (λ (e : RegionEdge). e.to.turns ≤ max_turns) es → Each EdgeFine es
    new-edges [] a t = tt
    new-edges (e ∷ es) a t = (record { cond = a.0.cond; turns = t.0; joins = a.0.joins }, new-edges es a.1 t.1)

    pub place-fine : (c c1 : Course) → CourseFine c → Treated p q (e0 ∷ more) c b c1 → CourseFine c1
    place-fine c c1 f t =
        let a = subst (Adds (start_at (e0 ∷ more) c b)) (sym t.is) (place-adds c) in
        let few : Each (λ (e : RegionEdge). e.to.turns ≤ max_turns) (c.edges ++ a.edges.0) = subst (Each (λ (e : RegionEdge). e.to.turns ≤ max_turns)) a.edges.1 (not-often t.midst.edges t.few) in
        record {
          edges = subst (Each EdgeFine) (sym (t.edges ∙ a.edges.1))
              (Each-append EdgeFine c.edges a.edges.0 f.edges (new-edges a.edges.0 a.edges.2 (Each-right (λ (e : RegionEdge). e.to.turns ≤ max_turns) c.edges a.edges.0 few)));
          ends = subst (Each EndFine) (sym (ap (λ (x : Rows). x.ends) t.rows ∙ a.ends.1))
              (Each-append EndFine c.rows.ends a.ends.0 f.ends (Each-more (EndRight u g (here_at p q b)) EndFine a.ends.0 (λ x k. record { cond = k.cond; known = k.known; way = k.way }) a.ends.2));
          drives = subst (Each DriveTyped) (sym (ap (λ (x : Rows). x.drives) t.rows ∙ a.drives.1))
              (Each-append DriveTyped c.rows.drives a.drives.0 f.drives
              (Each-more (DriveRight (here_at p q b)) DriveTyped a.drives.0 (λ x k. record { cond = k.cond; part = k.part; value = k.value; delay = k.delay }) a.drives.2));
        }

  -- ---- a place that edges lead to

  -- an edge that leads to a place joins others there
  pub joins-there : (p : RegionPlace) (b : FlatBlockText) → BlockAt g.blocks p.block b → (e : RegionEdge) → EdgeFine e → e.to ≡ p → JoinEdge u (as_block b) e
  joins-there p b bat e f q =
      let at : slice_get g.blocks p.block ≡ Some f.joins.0 = subst (λ (x : RegionPlace). slice_get g.blocks x.block ≡ Some f.joins.0) q f.joins.1.at in
      subst (λ (x : FlatBlockText). JoinEdge u (as_block x) e) (same_Some f.joins.0 b (sym at ∙ bat.at)) (f.joins.2 e refl refl f.cond)

  pub all-join : (p : RegionPlace) (b : FlatBlockText) → BlockAt g.blocks p.block b → (es : List RegionEdge) → Each EdgeFine es → Each (JoinEdge u (as_block b)) (edges_to p es)
  all-join p b bat es f = each-among (JoinEdge u (as_block b)) (edges_to p es) (λ e a.
      let k = filter-among (λ (e : RegionEdge). is_place e.to p) e es a in joins-there p b bat e (in-each EdgeFine es e f k.0) (place-is e.to p k.1))

  -- the block of a place to which some edge leads
  pub block-there : (p : RegionPlace) (es : List RegionEdge) → Each EdgeFine es → (e : RegionEdge) (more : List RegionEdge) → edges_to p es ≡ e ∷ more → (b : FlatBlockText)
      × BlockAt g.blocks p.block b
  block-there p es f e more q =
      let k = filter-among (λ (e : RegionEdge). is_place e.to p) e es (subst (Among e) (sym q) (inl refl)) in
      let h = (in-each EdgeFine es e f k.0).joins in
      let same : e.to ≡ p = place-is e.to p k.1 in
      (h.0, subst (λ (x : RegionPlace). BlockAt g.blocks x.block h.0) same h.1)

  -- a place that was treated, where these edges lead to it
  pub record At (p : RegionPlace) (c c1 : Course) : Type 0 where
    pub first : RegionEdge
    pub more : List RegionEdge
    pub are : edges_to p c.edges ≡ first ∷ more
    pub block : FlatBlockText
    pub at : BlockAt g.blocks p.block block
    pub join : Each (JoinEdge u (as_block block)) (first ∷ more)
    pub cond : IsCondition (any_taken (first ∷ more))
    pub done : Treated p (any_taken (first ∷ more)) (first ∷ more) c block c1

  conditions : (b : BlockText) (es : List RegionEdge) → Each (JoinEdge u b) es → EachCondition es
  conditions b [] h = tt
  conditions b (e ∷ es) h = (h.0.cond, conditions b es h.1)

  -- either no edge leads to the place, or it is treated
  pub reached-place : (p : RegionPlace) (c c1 : Course) → CourseFine c → through_reached g p (edges_to p c.edges) c ≡ comes_to c1 → ((edges_to p c.edges ≡ []) × (c ≡ c1)) ⊎ At p c c1
  reached-place p c c1 f e = by (edges_to p c.edges) refl e
    where
      by : (es : List RegionEdge) → edges_to p c.edges ≡ es → through_reached g p es c ≡ comes_to c1 → ((es ≡ []) × (c ≡ c1)) ⊎ At p c c1
      by [] q h = inl (refl, coursed-is c c1 h)
      by (x ∷ more) q h =
          let b = block-there p c.edges f.edges x more q in
          let j = subst (Each (JoinEdge u (as_block b.0))) q (all-join p b.0 b.1 c.edges f.edges) in
          let t : through_block g p (any_taken (x ∷ more)) (x ∷ more) c b.0 ≡ comes_to c1 = sym (ap (λ o. option_map_or (through_block g p (any_taken (x ∷ more)) (x ∷ more) c) o (comes_to c)) b.1.at)
          ∙ h in
          inr (record {
            first = x;
            more = more;
            are = q;
            block = b.0;
            at = b.1;
            join = j;
            cond = any-condition (x ∷ more) (conditions (as_block b.0) (x ∷ more) j);
            done = treated p (any_taken (x ∷ more)) (x ∷ more) c b.0 c1 t;
          })

  pub at-fine : (p : RegionPlace) (c c1 : Course) → CourseFine c → At p c c1 → CourseFine c1
  at-fine p c c1 f a = place-fine p a.block a.at (any_taken (a.first ∷ a.more)) a.cond a.first a.more a.join c c1 f a.done

  pub step-fine : (p : RegionPlace) (c c1 : Course) → CourseFine c → through_reached g p (edges_to p c.edges) c ≡ comes_to c1 → CourseFine c1
  step-fine p c c1 f e = ⊎_elim (λ x. subst CourseFine x.1 f) (λ a. at-fine p c c1 f a) (reached-place p c c1 f e)

  -- the course after one place, where that of the places goes on
  pub record Onward (p : RegionPlace) (ps : List RegionPlace) (c c' : Course) : Type 0 where
    pub course : Course
    pub here : through_reached g p (edges_to p c.edges) c ≡ comes_to course
    pub there : through_all g ps course ≡ comes_to c'

  pub onward : (p : RegionPlace) (ps : List RegionPlace) (c c' : Course) → through_all g (p ∷ ps) c ≡ comes_to c' → Onward p ps c c'
  onward p ps c c' e = by (through_reached g p (edges_to p c.edges) c) refl e
    where
      by : (x : Coursed) → through_reached g p (edges_to p c.edges) c ≡ x → then_course x (through_all g ps) ≡ comes_to c' → Onward p ps c c'
      by (stops z) q f = stops-not z c' f
      by (comes_to d) q f = record { course = d; here = q; there = f }

  pub all-fine : (ps : List RegionPlace) (c c' : Course) → CourseFine c → through_all g ps c ≡ comes_to c' → CourseFine c'
  all-fine [] c c' f e = subst CourseFine (coursed-is c c' e) f
  all-fine (p ∷ ps) c c' f e = let o = onward p ps c c' e in all-fine ps o.course c' (step-fine p c o.course f o.here) o.there

  -- the places so far have no more instructions than a region may have
  pub all-few : (ps : List RegionPlace) (c c' : Course) → CourseFine c → c.insts ≤ max_insts → through_all g ps c ≡ comes_to c' → c'.insts ≤ max_insts
  all-few [] c c' f h e = subst (λ (x : Course). x.insts ≤ max_insts) (coursed-is c c' e) h
  all-few (p ∷ ps) c c' f h e =
      let o = onward p ps c c' e in
      all-few ps o.course c' (step-fine p c o.course f o.here) (⊎_elim (λ x. subst (λ (y : Course). y.insts ≤ max_insts) x.1 h) (λ a. a.done.within) (reached-place p c o.course f o.here)) o.there

  -- ---- a region

  pub no-course-fine : CourseFine no_course
  no-course-fine = record { edges = tt; ends = tt; drives = tt }

  -- the course after the place where the region starts
  pub record Started (b : ℕ) (blk : FlatBlockText) (es : List RegionEdge) (c' : Course) : Type 0 where
    pub course : Course
    pub done : Treated (record { turns = 0; block = b }) (bit_of true) es no_course blk course
    pub there : through_all g (all_places (length g.blocks)) course ≡ comes_to c'

  pub started : (b : ℕ) (blk : FlatBlockText) → BlockAt g.blocks b blk → (es : List RegionEdge) (c' : Course) → region_from g b es ≡ comes_to c' → Started b blk es c'
  unfolding region_from
  started b blk bat es c' e =
      by (through_block g (record { turns = 0; block = b }) (bit_of true) es no_course blk) refl
      (ap (λ o. then_course (option_map_or (through_block g (record { turns = 0; block = b }) (bit_of true) es no_course) o (comes_to no_course)) (through_all g (all_places (length g.blocks)))) (sym
      bat.at) ∙ e)
    where
      by : (x : Coursed) → through_block g (record { turns = 0; block = b }) (bit_of true) es no_course blk ≡ x → then_course x (through_all g (all_places (length g.blocks))) ≡ comes_to c'
          → Started b blk es c'
      by (stops z) q f = stops-not z c' f
      by (comes_to d) q f = record { course = d; done = treated (record { turns = 0; block = b }) (bit_of true) es no_course blk d q; there = f }

  -- Each edge, end and drive of a region is right.
  pub region-fine : (b : ℕ) (blk : FlatBlockText) → BlockAt g.blocks b blk → (e0 : RegionEdge) (more : List RegionEdge) → Each (JoinEdge u (as_block blk)) (e0 ∷ more) → (c' : Course)
      → region_from g b (e0 ∷ more) ≡ comes_to c' → CourseFine c'
  region-fine b blk bat e0 more j c' e =
      let x = started b blk bat (e0 ∷ more) c' e in
      let f1 = place-fine (record { turns = 0; block = b }) blk bat (bit_of true) (bit-condition true) e0 more j no_course x.course no-course-fine x.done in
      all-fine (all_places (length g.blocks)) x.course c' f1 x.there

  -- A region has no more instructions than it may have.
  pub region-few : (b : ℕ) (blk : FlatBlockText) → BlockAt g.blocks b blk → (e0 : RegionEdge) (more : List RegionEdge) → Each (JoinEdge u (as_block blk)) (e0 ∷ more) → (c' : Course)
      → region_from g b (e0 ∷ more) ≡ comes_to c' → c'.insts ≤ max_insts
  region-few b blk bat e0 more j c' e =
      let x = started b blk bat (e0 ∷ more) c' e in
      let f1 = place-fine (record { turns = 0; block = b }) blk bat (bit_of true) (bit-condition true) e0 more j no_course x.course no-course-fine x.done in
      all-few (all_places (length g.blocks)) x.course c' f1 x.done.within x.there
