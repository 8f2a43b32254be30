-- An activation that begins at the `wait` of the first region goes through the second one, and then perhaps through the first.
use Rattle.std.proofs.Common.{◌≡◌, ◌⊎◌, inl, inr, ℕ, ◌+◌, ◌≤◌, List, [], ◌∷◌, true, false, Some, refl, ap, sym, ◌∙◌, subst, arith}
use Rattle.std.specs.Option.{option_and_then, option_map}
use Rattle.std.proofs.lemmas.Option.{same_Some, none-some}
use Rattle.lh_types.specs.Types.{IsData}
use Rattle.lh_types.specs.Wish.{no_wish}
use Rattle.lh_types.specs.declared.part.Range.{Range}
use Rattle.lh_unit_names.specs.declared.name.UnitName.{UnitName}
use Rattle.lh_unit.specs.Contents.{BlockText, UnitText}
use Rattle.lh_unit.specs.Named.{block_of}
use Rattle.lh_unit.specs.Held.{Env}
use Rattle.lh_unit.specs.Within.{Each}
use Rattle.lh_unit.specs.Activation as machine
use Rattle.lh_unit.specs.Activation.{Scene, ProcessState, Activated, activate, control_at, start_point, run, phis_taken, entered}
use Rattle.lh_flat_laws.specs.Formed.{IsFormed}
use Rattle.lh_flat.specs.Flat.{FlatBlockText, FlatText, with_merge, flat_unit, as_block}
use Rattle.lh_term.specs.Tree.{Tree, past_of, now_of}
use Rattle.lh_term.specs.Mean.{Valuation, IsFitting, mean}
use Rattle.lh_term.specs.Make.{bit_of}
use Rattle.lh_term.specs.declared.part.Part.{Part}
use Rattle.lh_region_def.specs.Known.{Knowledge}
use Rattle.lh_region_def.specs.Rows.{Way, halts, enters_head, waits, RegionEnd}
use Rattle.lh_region_def.specs.Joins.{RegionEdge}
use Rattle.lh_region_def.specs.Places.{Region}
use Rattle.lh_region_def.specs.Regions.{begins_with_phi, lines_at, head_of, edge_into, edges_of_ends, waits_for, Course, no_course, Coursed, comes_to, then_course, region_from, max_insts, first_region, second_region}
use Rattle.lh_region_def.specs.Typed.{Among, IsOfType, JoinEdge}
use Rattle.lh_region_def.specs.Means.{range_in, reads, is_true, KnownIsHeld, with_rows}
use Rattle.lh_region_def.specs.Ending.{StandsAs}
use Rattle.lh_region_def.specs.Laws.{Probes, CameTo, EndsAs, ThenFirst, max_steps, WaitsAfter, SecondRegion}
use Rattle.lh_region_def.specs.Right.{BlockAt, JoinsAt, WayRight}
use Rattle.lh_region_def.proofs.PartReads.{reads-fit}
use Rattle.lh_flat_laws.proofs.Members.{in-each}
use Rattle.lh_region_def.proofs.MergedValues.{bit-condition}
use Rattle.lh_region_def.proofs.Labels.{block-labelled, block-text}
use Rattle.lh_region_def.proofs.Sites.{good-lines}
use Rattle.lh_region_def.proofs.Steps.{RegionOf}
use Rattle.lh_region_def.proofs.Phis.{known-shows-at}
use Rattle.lh_region_def.proofs.Heads.{no-phis-taken}
use Rattle.lh_region_def.proofs.Start as Start
use Rattle.lh_region_def.proofs.Courses as Courses
use Rattle.lh_region_def.proofs.Walk as Walk
use Rattle.lh_region_def.proofs.Walk.{stood, headed}
use Rattle.lh_region_def.proofs.Activations as Activations
use Rattle.lh_region_def.proofs.Activations.{more-steps}

pub past-typed : (p : Part) → IsData p.ty → IsOfType p.ty (past_of p)
past-typed p d = record { typed = d; type = refl }

pub now-typed : (p : Part) → IsData p.ty → IsOfType p.ty (now_of p)
now-typed p d = record { typed = d; type = refl }

-- a way that waits for a block
record WaitsFor (w : Way) (n : ℕ) : Type 0 where
  parts : List Part
  is : w ≡ waits n false parts false

waiting-for : (w : Way) (n : ℕ) → waits_for w ≡ Some n → WaitsFor w n
waiting-for halts n q = absurd (none-some n q)
waiting-for enters_head n q = absurd (none-some n q)
waiting-for (waits k true ps timed) n q = absurd (none-some n q)
waiting-for (waits k false ps true) n q = absurd (none-some n q)
waiting-for (waits k false ps false) n q = record { parts = ps; is = ap (λ x. waits x false ps false) (same_Some k n q) }

coursed : (x : Coursed) (f : Course → Coursed) (c : Course) → x ≡ comes_to c → (d : Course) → then_course x f ≡ comes_to d → f c ≡ comes_to d
coursed x f c e d h = ap (λ y. then_course y f) (sym e) ∙ h

mapped-among : (n : ℕ) (e : RegionEdge) (xs : List RegionEnd) → Among e (edges_of_ends n xs) → (x : RegionEnd) × Among x xs × (edge_into n x.from x.cond x.known ≡ e)
mapped-among n e [] a = absurd a
mapped-among n e (x ∷ xs) (inl q) = (x, inl refl, q)
mapped-among n e (x ∷ xs) (inr a) = let r = mapped-among n e xs a in (r.0, inr r.1, r.2)

among-mapped : (n : ℕ) (x : RegionEnd) (xs : List RegionEnd) → Among x xs → Among (edge_into n x.from x.cond x.known) (edges_of_ends n xs)
among-mapped n x [] a = absurd a
among-mapped n x (y ∷ xs) (inl q) = inl (ap (λ (z : RegionEnd). edge_into n z.from z.cond z.known) q)
among-mapped n x (y ∷ xs) (inr a) = inr (among-mapped n x xs a)

module _ (name : UnitName) (t : FlatText) (f : IsFormed (flat_unit name t)) (plain : begins_with_phi (lines_at t.blocks (head_of t.blocks)) ≡ false) (c : Course)
    (e : first_region t past_of ≡ comes_to c) (target : ℕ) (ways : Each (λ (x : RegionEnd). waits_for x.way ≡ Some target) c.rows.ends)
    (second : Course) (e2 : second_region t target ≡ comes_to second) (args : List Range) (s : Scene) (past : Valuation) (p : IsFitting past) where
  abbrev u : UnitText
  u = flat_unit name t

  abbrev now : Valuation
  now = reads args s.now

  abbrev n : IsFitting now
  n = reads-fit args s.now

  abbrev g : Region
  g = record { blocks = t.blocks; head = head_of t.blocks; probe = now_of; ends_at_head = true }

  r : RegionOf u g
  r = record { formed = f; blocks = refl; probe = now-typed }

  abbrev hb : FlatBlockText
  hb = Start.hb name t f plain

  abbrev head-at : BlockAt t.blocks (head_of t.blocks) hb
  head-at = (Start.head-block name t f plain).at

  region-is : region_from g target (edges_of_ends target c.rows.ends) ≡ comes_to second
  region-is = coursed (first_region t past_of) (λ d. region_from g target (edges_of_ends target d.rows.ends)) c e second e2

  fine : Courses.CourseFine u (Activations.g name t f plain past_of past-typed c e) (Activations.r name t f plain past_of past-typed c e) c
  fine = Activations.first-fine name t f plain past_of past-typed c e

  abbrev EndFine : RegionEnd → Type 0
  EndFine = Courses.EndFine u (Activations.g name t f plain past_of past-typed c e) (Activations.r name t f plain past_of past-typed c e)

  -- where an end leads
  end-joins : (x : RegionEnd) → Among x c.rows.ends → JoinsAt u (Activations.g name t f plain past_of past-typed c e) target x.from x.known
  end-joins x a =
      let w = waiting-for x.way target (in-each (λ (y : RegionEnd). waits_for y.way ≡ Some target) c.rows.ends x ways a) in
      subst (λ y. WayRight u (Activations.g name t f plain past_of past-typed c e) y x.from x.known) w.is (in-each EndFine c.rows.ends x fine.ends a).way

  module _ (p0 : ProcessState) (w : WaitsAfter u t past now args c.rows p0) where
    abbrev shows : Knowledge → Env → Type 0
    shows = KnownIsHeld u (mean past now) (range_in args)

    -- the block for which it waits
    joined : JoinsAt u (Activations.g name t f plain past_of past-typed c e) target w.end.from w.end.known
    joined = end-joins w.end w.came.among

    abbrev nb : FlatBlockText
    nb = joined.0

    block-at : BlockAt t.blocks target nb
    block-at = joined.1

    abbrev es : List RegionEdge
    es = edges_of_ends target c.rows.ends

    edge-joins : (x : RegionEnd) → Among x c.rows.ends → JoinEdge u (as_block nb) (edge_into target x.from x.cond x.known)
    edge-joins x a =
        let j = end-joins x a in
        subst (λ (b : FlatBlockText). JoinEdge u (as_block b) (edge_into target x.from x.cond x.known)) (same_Some j.0 nb (sym j.1.at ∙ block-at.at))
        (j.2 (edge_into target x.from x.cond x.known) refl refl (in-each EndFine c.rows.ends x fine.ends a).cond)

    all-join : (xs : List RegionEnd) → ((x : RegionEnd) → Among x xs → Among x c.rows.ends) → Each (JoinEdge u (as_block nb)) (edges_of_ends target xs)
    all-join [] h = tt
    all-join (x ∷ xs) h = (edge-joins x (h x (inl refl)), all-join xs (λ y a. h y (inr a)))

    each-taken : (x : RegionEdge) → Among x es → is_true past now x.cond ≡ true → (x.from ≡ w.end.from) × shows x.known p0.held
    each-taken x a k =
        let y = mapped-among target x c.rows.ends a in
        let same : y.0 ≡ w.end = w.came.only y.0 y.1 (ap (λ (z : RegionEdge). is_true past now z.cond) y.2 ∙ k) in (
          ap (λ (z : RegionEdge). z.from) (sym y.2) ∙ ap (λ (z : RegionEnd). z.from) same,
          subst (λ (z : RegionEdge). shows z.known p0.held) y.2 (subst (λ (z : RegionEnd). shows z.known p0.held) (sym same) w.came.known),
        )

    abbrev e1 : RegionEdge
    e1 = edge_into target w.end.from w.end.cond w.end.known

    e1-among : Among e1 es
    e1-among = among-mapped target w.end c.rows.ends w.came.among

    -- the block is entered
    record EntersIt : Type 0 where
      held : Env
      phis : phis_taken w.end.from p0.held (with_merge nb.merge nb.lines) ≡ Some held

    enters-it : EntersIt
    enters-it =
        let z = known-shows-at u (as_block nb) e1 [] (edge-joins w.end w.came.among, tt) past now p n (range_in args) w.end.from p0.held e1 (inl refl) w.came.holds (λ x a k. one x a)
        (good-lines u f target (as_block nb) (block-text t.blocks target nb block-at.at)) in
        record { held = z.0; phis = z.1 }
      where
        one : (x : RegionEdge) → Among x (e1 ∷ []) → (x.from ≡ w.end.from) × shows x.known p0.held
        one x (inl q) = (ap (λ (y : RegionEdge). y.from) (sym q), subst (λ (y : RegionEdge). shows y.known p0.held) q w.came.known)
        one x (inr a) = absurd a

    abbrev start : machine.Point
    start = Walk.point u g r s args past now p n (λ x. refl) nb enters-it.held no_wish []

    -- the region, by the list of its edges
    goes-through : (xs : List RegionEdge) → es ≡ xs → Each (JoinEdge u (as_block nb)) xs → Among e1 xs → Walk.Result u g r s args past now p n (λ x. refl) start no_course second
    goes-through [] q j a = absurd a
    goes-through (x ∷ xs) q j a =
        Walk.region-runs u g r s args past now p n (λ x. refl) target nb block-at x xs j second (ap (region_from g target) (sym q) ∙ region-is) w.end.from p0.held enters-it.held
        (record { edge = e1; among = a; taken = w.came.holds; each = λ y b k. each-taken y (subst (Among y) (sym q) b) k }) enters-it.phis no_wish []

    second-fine : (xs : List RegionEdge) → es ≡ xs → Each (JoinEdge u (as_block nb)) xs → Among e1 xs → Courses.CourseFine u g r second × (second.insts ≤ max_insts)
    second-fine [] q j a = absurd a
    second-fine (x ∷ xs) q j a = (
      Courses.region-fine u g r target nb block-at x xs j second (ap (region_from g target) (sym q) ∙ region-is),
      Courses.region-few u g r target nb block-at x xs j second
          (ap (region_from g target) (sym q) ∙ region-is),
    )

    -- where it stands
    control : control_at u p0 ≡ Some (record { unit = u; block = nb.label; rest = with_merge nb.merge nb.lines; held = enters-it.held })
    control =
        let y = waiting-for w.end.way target (in-each (λ (x : RegionEnd). waits_for x.way ≡ Some target) c.rows.ends w.end ways w.came.among) in
        let st = subst (λ way. StandsAs t.blocks args way w.end.from p0.stand) y.is w.stands in
        let same : st.0 ≡ nb = same_Some st.0 nb (sym st.1 ∙ block-at.at) in
        let stands : block_of nb.label u.blocks ≡ Some (as_block nb) = block-labelled t.blocks nb.label target nb block-at.at block-at.number in
        ap (machine.control_from u p0.held) st.3
        ∙ ap (λ (b : FlatBlockText). entered u p0.held w.end.from b.label) same
        ∙ ap (option_and_then (λ (b : BlockText). option_map (λ e'. record { unit = u; block = nb.label; rest = b.lines; held = e' }) (phis_taken w.end.from p0.held b.lines))) stands
        ∙ ap (option_map (λ e'. record { unit = u; block = nb.label; rest = with_merge nb.merge nb.lines; held = e' })) enters-it.phis

    module _ (probe : Part → Tree) (past' now' : Valuation) (pr : Probes probe past' now' args s.now) (first : Course) (e3 : first_region t probe ≡ comes_to first) (bound : ℕ)
        (h : max_steps + max_steps ≤ bound) where
      abbrev Ends : Activated → Type 0
      Ends done = EndsAs u t past now args s.at no_wish [] second.rows done ⊎ ThenFirst u t past now second.rows past' now' first.rows args s.at done

      came : (x : RegionEnd) (held : Env) → Walk.OneEnd u g r s args past now p n (λ x. refl) second.rows.ends x → shows x.known held → CameTo u past now args second.rows.ends x held
      came x held o sh = record { among = o.among; holds = o.holds_there; only = o.only; known = sh }

      -- the head is entered, and the first region follows
      at-head : (x : Walk.Result u g r s args past now p n (λ x. refl) start no_course second) → x.end.way ≡ enters_head
          → (en : Walk.Enters u g r s args past now p n (λ x. refl) (head_of t.blocks) x.end.from x.held)
          → ((k : ℕ) → run (x.steps + k) s start ≡ run k s (Walk.point u g r s args past now p n (λ x. refl) en.block en.held x.wish x.outcomes)) → x.steps ≤ max_steps → (done : Activated)
          × (run bound s start ≡ Some done) × Ends done
      at-head x way en runs few =
          let j = subst (λ y. WayRight u g y x.end.from x.end.known) way
          (in-each (Courses.EndFine u g r) second.rows.ends x.end (second-fine es refl (all-join c.rows.ends (λ y a. a)) e1-among).0.ends x.only.among).way in
          let k1 : RegionEdge = edge_into (head_of t.blocks) x.end.from (bit_of true) x.end.known in
          let same : j.0 ≡ hb = same_Some j.0 hb (sym j.1.at ∙ head-at.at) in
          let joined1 : JoinEdge u (as_block hb) k1 = subst (λ (b : FlatBlockText). JoinEdge u (as_block b) k1) same (j.2 k1 refl refl (bit-condition true)) in
          let known = Start.held-again name t f plain (mean past now) (mean past' now') (range_in args) x.end.known x.held (λ d. refl) (λ d. refl) joined1.known joined1.there x.shown in
          let y = Activations.from-head name t f plain probe pr.typed first e3 s args past' now' pr.past_fits pr.now_fits pr.means x.held known x.wish x.outcomes in
          let block : en.block ≡ hb = same_Some en.block hb (sym en.at.at ∙ head-at.at) in
          let held : en.held ≡ x.held = same_Some en.held x.held (sym en.phis ∙ ap (λ (b : FlatBlockText). phis_taken x.end.from x.held (with_merge b.merge b.lines)) block
          ∙ no-phis-taken x.end.from x.held (with_merge hb.merge hb.lines) (Start.head-lines name t f plain)) in
          let go : (k : ℕ) → run (x.steps + k) s start ≡ run k s (Walk.point u g r s args past now p n (λ x. refl) hb x.held x.wish x.outcomes) = λ k. runs k
          ∙ (λ i. run k s (Walk.point u g r s args past now p n (λ x. refl) (block i) (held i) x.wish x.outcomes)) in
          let wish : x.wish ≡ with_rows past now args s.at no_wish second.rows.drives = x.wished no_wish refl in (
            y.done,
            more-steps s start (x.steps + max_steps) bound y.done (omega (arith, h, few))
                (λ k. ap (λ z. run z s start) (sum x.steps max_steps k) ∙ go (max_steps + k) ∙ y.runs (max_steps + k) (omega arith)),
            inr (record {
              end = x.end;
              way = way;
              held = x.held;
              came = came x.end x.held x.only x.shown;
              told = x.outcomes;
              outcomes = λ z. (x.told z).0;
              ends = subst (λ v. EndsAs u t past' now' args s.at v x.outcomes first.rows y.done) wish y.ends;
            }),
          )
        where
          sum : (a b k : ℕ) → (a + b) + k ≡ a + (b + k)
          sum a b k = omega arith

      pub second-runs : (done : Activated) × (activate bound s u p0 ≡ Some done) × Ends done
      unfolding activate
      second-runs = let z = by (goes-through es refl (all-join c.rows.ends (λ y a. a)) e1-among) in (z.0, ap (option_and_then (λ k. run bound s (start_point k))) control ∙ z.1, z.2)
        where
          by : Walk.Result u g r s args past now p n (λ x. refl) start no_course second → (done : Activated) × (run bound s start ≡ Some done) × Ends done
          by x = at x.how x.runs
            where
              steps : x.steps ≤ max_steps
              steps = let i = x.within in let j = (second-fine es refl (all-join c.rows.ends (λ y a. a)) e1-among).1 in omega (arith, i, j)

              at : (k : Walk.Finish u g r s args past now p n (λ x. refl) x.end x.held)
                  → ((m : ℕ) → run (x.steps + m) s start ≡ Walk.finish_on u g r s args past now p n (λ x. refl) x.end x.held k x.wish x.outcomes m) → (done : Activated)
                  × (run bound s start ≡ Some done) × Ends done
              at (headed i way en) runs = at-head x way en runs steps
              at (stood st st-is) runs = (
                record { state = record { stand = st; held = x.held }; wish = x.wish; outcomes = x.outcomes },
                more-steps s start x.steps bound _ (omega (arith, steps, h)) runs,
                inl (record { end = x.end; came = came x.end x.held x.only x.shown; stands = st-is; wish = x.wished no_wish refl; outcomes = λ z. (x.told z).0 }),
              )

pub second-region : SecondRegion
second-region name t args s i past p c e target ways second e2 p0 w probe past' now' pr first e3 bound h =
    second-runs name t i.formed i.plain c e target ways second e2 args s past p p0 w probe past' now' pr first e3 bound h
