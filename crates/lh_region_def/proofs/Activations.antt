-- An activation of a process does what the rows of its first region say.
use Rattle.std.proofs.Common.{◌≡◌, inl, inr, ℕ, ◌+◌, ◌-◌, ◌≤◌, suc, List, [], ◌∷◌, ◌++◌, map, length, Bool, true, false, nat_eq, Some, refl, ap, sym, ◌∙◌, subst, arith}
use Rattle.std.specs.Bool.{if◌then◌else◌}
use Rattle.std.specs.Prelude.{slice_get}
use Rattle.std.specs.Option.{option_and_then, option_map}
use Rattle.std.proofs.lemmas.Bool.{false≢true}
use Rattle.std.proofs.lemmas.Bool.Decides.{nat_tests}
use Rattle.std.proofs.lemmas.Option.{same_Some}
use Rattle.lh_types.specs.Types.{IsData}
use Rattle.lh_types.specs.Wish.{Wish, no_wish}
use Rattle.lh_types.specs.declared.part.Range.{Range}
use Rattle.lh_unit_names.specs.declared.name.UnitName.{UnitName}
use Rattle.lh_unit.specs.Contents.{LineText, BlockText, UnitText}
use Rattle.lh_unit.specs.Named.{block_of}
use Rattle.lh_unit.specs.Held.{Env, part_held, nothing_held, with_args}
use Rattle.lh_unit.specs.Within.{Each}
use Rattle.lh_unit.specs.Activation as machine
use Rattle.lh_unit.specs.Activation.{Scene, Point, ProcessState, Activated, activate, control_at, start_point, run, went, phis_taken, entered}
use Rattle.lh_unit.proofs.Within.{Each-more}
use Rattle.lh_unit.specs.World.{begun}
use Rattle.lh_eval_laws.specs.Ranges.{RangesFit, arg_types}
use Rattle.lh_flat_laws.specs.Formed.{IsFormed}
use Rattle.lh_flat.specs.Flat.{FlatBlockText, FlatText, with_merge, flat_unit, as_block}
use Rattle.lh_term.specs.Tree.{Tree}
use Rattle.lh_term.specs.Mean.{Valuation, IsFitting, mean}
use Rattle.lh_term.specs.Make.{bit_of}
use Rattle.lh_term.specs.declared.part.Part.{Part}
use Rattle.lh_region_def.specs.Known.{Knowledge, nothing_known, with_arguments}
use Rattle.lh_region_def.specs.Rows as rows
use Rattle.lh_region_def.specs.Rows.{RegionEnd}
use Rattle.lh_region_def.specs.Joins.{RegionEdge}
use Rattle.lh_region_def.specs.Places.{Region}
use Rattle.lh_region_def.specs.Regions.{with_constant, with_constants, begins_with_phi, lines_at, known_first, head_of, edge_into, Course, no_course, comes_to, max_insts, first_region}
use Rattle.lh_region_def.specs.Typed.{Among, IsOfType, JoinEdge}
use Rattle.lh_region_def.specs.Means.{range_in, reads, KnownIsHeld, KnowledgeAgrees}
use Rattle.lh_region_def.specs.Laws.{EndsAs, max_steps, WaitsForHead, FirstActivation, AgainFromHead, HeadStaysKnown, RowsAreTyped, EndTyped}
use Rattle.lh_region_def.specs.Right.{DriveTyped, BlockAt, WayRight}
use Rattle.lh_flat_laws.proofs.Members.{in-each}
use Rattle.lh_region_def.proofs.MergedValues.{bit-condition}
use Rattle.lh_region_def.proofs.Labels.{block-labelled}
use Rattle.lh_region_def.proofs.Steps.{RegionOf}
use Rattle.lh_region_def.proofs.Heads.{no-phis-taken}
use Rattle.std.proofs.lemmas.List.{length-append}
use Rattle.lh_region_def.proofs.Start as Start
use Rattle.lh_region_def.proofs.Courses as Courses
use Rattle.lh_region_def.proofs.Walk as Walk
use Rattle.lh_region_def.proofs.Walk.{stood, headed}

-- what so many instructions lead to, more lead to
pub more-steps : (s : Scene) (q : Point) (steps bound : ℕ) (done : Activated) → steps ≤ bound → ((k : ℕ) → run (steps + k) s q ≡ Some done) → run bound s q ≡ Some done
more-steps s q steps bound done h go = ap (λ x. run x s q) (rest steps bound h) ∙ go (bound - steps)
  where
    rest : (a b : ℕ) → a ≤ b → b ≡ a + (b - a)
    rest a b l = omega (arith, l)

module _ (name : UnitName) (t : FlatText) (f : IsFormed (flat_unit name t)) (plain : begins_with_phi (lines_at t.blocks (head_of t.blocks)) ≡ false) (probe : Part → Tree)
    (pt : (p : Part) → IsData p.ty → IsOfType p.ty (probe p)) (c : Course) (e : first_region t probe ≡ comes_to c) where
  abbrev pub u : UnitText
  u = flat_unit name t

  abbrev pub g : Region
  g = record { blocks = t.blocks; head = head_of t.blocks; probe = probe; ends_at_head = false }

  pub r : RegionOf u g
  r = record { formed = f; blocks = refl; probe = pt }

  abbrev pub hb : FlatBlockText
  hb = Start.hb name t f plain

  abbrev pub head-at : BlockAt t.blocks (head_of t.blocks) hb
  head-at = (Start.head-block name t f plain).at

  abbrev e0 : RegionEdge
  e0 = edge_into (head_of t.blocks) [] (bit_of true) (known_first t)

  joins : Each (JoinEdge u (as_block hb)) (e0 ∷ [])
  joins = (Start.first-joins name t f plain, tt)

  module _ (s : Scene) (args : List Range) (past now : Valuation) (p : IsFitting past) (n : IsFitting now) (means : (x : Part) → mean past now (probe x) ≡ reads args s.now x) where
    abbrev shows : Knowledge → Env → Type 0
    shows = KnownIsHeld u (mean past now) (range_in args)

    abbrev pub head-point : Env → Wish → List Bool → Point
    head-point held w o = Walk.point u g r s args past now p n means hb held w o

    head-result : (held : Env) → shows (known_first t) held → (w : Wish) (o : List Bool) → Walk.Result u g r s args past now p n means (head-point held w o) no_course c
    head-result held sh w o =
        Walk.region-runs u g r s args past now p n means (head_of t.blocks) hb head-at e0 [] joins c e [] held held
        (record { edge = e0; among = inl refl; taken = refl; each = λ x a k. all x a }) (no-phis-taken [] held (with_merge hb.merge hb.lines) (Start.head-lines name t f plain)) w o
      where
        all : (x : RegionEdge) → Among x (e0 ∷ []) → (x.from ≡ []) × shows x.known held
        all x (inl q) = (ap (λ (y : RegionEdge). y.from) (sym q), subst (λ (y : RegionEdge). shows y.known held) q sh)
        all x (inr a) = absurd a

    -- from the head on
    pub record FromHead (held : Env) (w : Wish) (o : List Bool) : Type 0 where
      pub done : Activated
      pub runs : (bound : ℕ) → max_steps ≤ bound → run bound s (head-point held w o) ≡ Some done
      pub ends : EndsAs u t past now args s.at w o c.rows done

    pub from-head : (held : Env) → shows (known_first t) held → (w : Wish) (o : List Bool) → FromHead held w o
    from-head held sh w o = by (head-result held sh w o)
      where
        few : c.insts ≤ max_insts
        few = Courses.region-few u g r (head_of t.blocks) hb head-at e0 [] joins c e

        by : Walk.Result u g r s args past now p n means (head-point held w o) no_course c → FromHead held w o
        by x = at x.how x.runs
          where
            at : (h : Walk.Finish u g r s args past now p n means x.end x.held)
                → ((k : ℕ) → run (x.steps + k) s (head-point held w o) ≡ Walk.finish_on u g r s args past now p n means x.end x.held h x.wish x.outcomes k) → FromHead held w o
            at (headed i y en) runs = absurd (false≢true i)
            at (stood st st-is) runs = record {
              done = record { state = record { stand = st; held = x.held }; wish = x.wish; outcomes = x.outcomes };
              runs = λ bound h. more-steps s (head-point held w o) x.steps bound _ (let w = x.within in omega (arith, w, few, h)) runs;
              ends = record {
                end = x.end;
                came = record { among = x.only.among; holds = x.only.holds_there; only = x.only.only; known = x.shown };
                stands = st-is;
                wish = x.wished w refl;
                outcomes = λ z. (x.told z).0;
              };
            }

    -- ---- where the process waits for the head

    again-runs : (st : ProcessState) → WaitsForHead u t past now args st → (bound : ℕ) → max_steps ≤ bound → (done : Activated) × (activate bound s u st ≡ Some done)
        × EndsAs u t past now args s.at no_wish [] c.rows done
    unfolding activate
    again-runs st w bound h =
        let x = from-head st.held w.known no_wish [] in
        let same : w.head ≡ hb = same_Some w.head hb (sym w.is ∙ head-at.at) in
        let stands : block_of hb.label u.blocks ≡ Some (as_block hb) = block-labelled t.blocks hb.label (head_of t.blocks) hb head-at.at head-at.number in
        let into : entered u st.held w.from hb.label ≡ Some (record { unit = u; block = hb.label; rest = with_merge hb.merge hb.lines; held = st.held }) =
        ap (option_and_then (λ (b : BlockText). option_map (λ e'. record { unit = u; block = hb.label; rest = b.lines; held = e' }) (phis_taken w.from st.held b.lines))) stands
        ∙ ap (option_map (λ e'. record { unit = u; block = hb.label; rest = with_merge hb.merge hb.lines; held = e' })) (no-phis-taken w.from st.held (with_merge hb.merge hb.lines)
        (Start.head-lines name t f plain)) in
        let control : control_at u st ≡ Some (record { unit = u; block = hb.label; rest = with_merge hb.merge hb.lines; held = st.held }) =
        ap (machine.control_from u st.held) (w.stand ∙ ap (λ (b : FlatBlockText). machine.waits w.from b.label w.on w.wake) same) ∙ into in
        (x.done, ap (option_and_then (λ k. run bound s (start_point k))) control ∙ x.runs bound h, x.ends)

    -- ---- the first activation

    abbrev held0 : Env
    held0 = with_args nothing_held t.args (map part_held args)

    abbrev K : Knowledge
    K = with_arguments nothing_known 0 t.args

    abbrev eb : FlatBlockText
    eb = Start.eb name t f plain

    abbrev entry-point : Point
    entry-point = Start.point name t f plain s (mean past now) (range_in args) (λ d. refl) eb.label (with_merge eb.merge eb.lines) held0

    first-control : control_at u (begun u args) ≡ Some (record { unit = u; block = eb.label; rest = with_merge eb.merge eb.lines; held = held0 })
    first-control = ap (λ bs. machine.at_first u held0 (map as_block bs)) (Start.entry-of name t f plain).are

    -- where the entry is the head
    entry-head : nat_eq (head_of t.blocks) 0 ≡ true → eb ≡ hb
    entry-head q =
        let z : head_of t.blocks ≡ 0 = grind (arith, nat_tests) in
        same_Some eb hb (sym (Start.entry-at name t f plain).at ∙ subst (λ k. slice_get t.blocks k ≡ Some hb) z head-at.at)

    append-constants : (k : Knowledge) (ls : List LineText) (l : LineText) → with_constants k (ls ++ l ∷ []) ≡ with_constant (with_constants k ls) l.inst l.result
    append-constants k [] l = refl
    append-constants k (x ∷ ls) l = append-constants (with_constant k x.inst x.result) ls l

    -- where it is not, its constants are executed
    behind-runs : shows K held0 → nat_eq (head_of t.blocks) 0 ≡ false → (bound : ℕ) → max_steps + length (lines_at t.blocks 0) ≤ bound → (done : Activated) × (run bound s entry-point ≡ Some done)
        × EndsAs u t past now args s.at no_wish [] c.rows done
    behind-runs sh q bound h =
        let l = Start.leading name t f plain q in
        let text : with_merge eb.merge eb.lines ≡ l.constants ++ l.last ∷ [] = sym (Start.entry-lines name t f plain) ∙ l.are in
        let x = Start.constants-run name t f plain s (mean past now) (range_in args) (λ d. refl) eb.label l.constants (l.last ∷ []) l.all held0 K sh in
        let known : known_first t ≡ with_constants K l.constants =
        ap (λ b. with_constants K (if b then [] else lines_at t.blocks 0)) q ∙ ap (with_constants K) l.are ∙ append-constants K l.constants l.last
        ∙ ap (λ i. with_constant (with_constants K l.constants) i l.last.result) l.branch in
        let y = from-head x.held (subst (λ k. shows k x.held) (sym known) x.shown) no_wish [] in
        let stands : block_of hb.label u.blocks ≡ Some (as_block hb) = block-labelled t.blocks hb.label (head_of t.blocks) hb head-at.at head-at.number in
        let into : entered u x.held eb.label hb.label ≡ Some (record { unit = u; block = hb.label; rest = with_merge hb.merge hb.lines; held = x.held }) =
        ap (option_and_then (λ (b : BlockText). option_map (λ e'. record { unit = u; block = hb.label; rest = b.lines; held = e' }) (phis_taken eb.label x.held b.lines))) stands
        ∙ ap (option_map (λ e'. record { unit = u; block = hb.label; rest = with_merge hb.merge hb.lines; held = e' })) (no-phis-taken eb.label x.held (with_merge hb.merge hb.lines)
        (Start.head-lines name t f plain)) in
        let here : Point = Start.point name t f plain s (mean past now) (range_in args) (λ d. refl) eb.label [] x.held in
        let branch : machine.step s (Start.point name t f plain s (mean past now) (range_in args) (λ d. refl) eb.label (l.last ∷ []) x.held) ≡ machine.goes (head-point x.held no_wish []) =
        ap (λ i. machine.executes s i l.last.result here) l.branch ∙ ap (machine.jumps here) into in
        let count : length (lines_at t.blocks 0) ≡ length l.constants + 1 = ap length l.are ∙ length-append l.constants (l.last ∷ []) in
        let m : ℕ = bound - (length l.constants + 1) in
        let all : bound ≡ length l.constants + suc m = omega (arith, h, count) in
        let enough : max_steps ≤ m = omega (arith, h, count) in (
          y.done,
          ap (λ b. run b s entry-point) all ∙ ap (λ ls. run (length l.constants + suc m) s (Start.point name t f plain s (mean past now) (range_in args) (λ d. refl) eb.label ls held0)) text
              ∙ x.runs (suc m) ∙ ap (λ z. went z (run m s)) branch ∙ y.runs m enough,
          y.ends,
        )

    pub first-runs : RangesFit (length s.now) args (arg_types t.args) → (bound : ℕ) → max_steps + length (lines_at t.blocks 0) ≤ bound → (done : Activated)
        × (activate bound s u (begun u args) ≡ Some done) × EndsAs u t past now args s.at no_wish [] c.rows done
    unfolding activate
    first-runs fit bound h =
        let z = by (nat_eq (head_of t.blocks) 0) refl in
        (z.0, ap (option_and_then (λ k. run bound s (start_point k))) first-control ∙ z.1, z.2)
      where
        sh : shows K held0
        sh = Start.held-new name t f plain (mean past now) (length s.now) args fit

        by : (b : Bool) → nat_eq (head_of t.blocks) 0 ≡ b → (done : Activated) × (run bound s entry-point ≡ Some done) × EndsAs u t past now args s.at no_wish [] c.rows done
        by false q = behind-runs sh q bound h
        by true q =
            let same = entry-head q in
            let known : known_first t ≡ K = ap (λ b. with_constants K (if b then [] else lines_at t.blocks 0)) q in
            let y = from-head held0 (subst (λ k. shows k held0) (sym known) sh) no_wish [] in (
              y.done,
              ap (λ (b : FlatBlockText). run bound s (Start.point name t f plain s (mean past now) (range_in args) (λ d. refl) b.label (with_merge b.merge b.lines) held0)) same
                  ∙ y.runs bound (omega (arith, h)),
              y.ends,
            )

  -- ---- what holds of the rows, whatever the values are

  -- each edge, end and drive is right
  pub first-fine : Courses.CourseFine u g r c
  first-fine = Courses.region-fine u g r (head_of t.blocks) hb head-at e0 [] joins c e

  -- where an end waits for the head, what the first region starts with is held
  stays : (x : RegionEnd) → Courses.EndFine u g r x → (to_head : Bool) (parts : List Part) (timed : Bool) → x.way ≡ rows.waits (head_of t.blocks) to_head parts timed
      → (args : List Range) (past now past' now' : Valuation) (held : Env) → KnowledgeAgrees u past now args x.known held → KnowledgeAgrees u past' now' args (known_first t) held
  stays x fine to_head parts timed way args past now past' now' held sh =
      let j = subst (λ w. WayRight u g w x.from x.known) way fine.way in
      let e1 : RegionEdge = edge_into (head_of t.blocks) x.from (bit_of true) x.known in
      let same : j.0 ≡ hb = same_Some j.0 hb (sym j.1.at ∙ head-at.at) in
      let joined : JoinEdge u (as_block hb) e1 = subst (λ (b : FlatBlockText). JoinEdge u (as_block b) e1) same (j.2 e1 refl refl (bit-condition true)) in
      Start.held-again name t f plain (mean past now) (mean past' now') (range_in args) x.known held (λ d. refl) (λ d. refl) joined.known joined.there sh

  pub stays-known : (x : RegionEnd) → Among x c.rows.ends → (to_head : Bool) (parts : List Part) (timed : Bool) → x.way ≡ rows.waits (head_of t.blocks) to_head parts timed
      → (args : List Range) (past now past' now' : Valuation) (held : Env) → KnowledgeAgrees u past now args x.known held → KnowledgeAgrees u past' now' args (known_first t) held
  stays-known x a = stays x (in-each (Courses.EndFine u g r) c.rows.ends x first-fine.ends a)

  pub rows-typed : Each DriveTyped c.rows.drives × Each (EndTyped u) c.rows.ends
  rows-typed = (
    first-fine.drives,
    Each-more (Courses.EndFine u g r) (EndTyped u) c.rows.ends (λ x k. record { cond = k.cond; known = k.known }) first-fine.ends,
  )

-- ---- the laws

pub first-activation : FirstActivation
first-activation name t args s i probe past now pr c e bound h = first-runs name t i.formed i.plain probe pr.typed c e s args past now pr.past_fits pr.now_fits pr.means i.ranges bound h

pub again-from-head : AgainFromHead
again-from-head name t args s i probe past now pr c e st w bound h = again-runs name t i.formed i.plain probe pr.typed c e s args past now pr.past_fits pr.now_fits pr.means st w bound h

pub head-stays-known : HeadStaysKnown
head-stays-known name t f plain probe pt c e x a to_head parts timed way args past now past' now' held sh = stays-known name t f plain probe pt c e x a to_head parts timed way args past now past' now'
    held sh

pub rows-are-typed : RowsAreTyped
rows-are-typed name t f plain probe pt c e = rows-typed name t f plain probe pt c e
