-- The run of a block where control is there: by the edge or the end that is taken, with the drives of its rows.
use Rattle.std.proofs.Common.{◌≡◌, ℕ, ◌+◌, ◌≤◌, suc, List, [], ◌∷◌, ◌++◌, map, length, Bool, true, false, not, ◌&&◌, nat_eq, Option, Some, None, is_some, refl, ap, sym, ◌∙◌, subst, append_assoc, arith}
use Rattle.std.specs.List.{list_any}
use Rattle.std.specs.Option.{option_and_then, option_map}
use Rattle.std.proofs.lemmas.Bool.{false≢true}
use Rattle.std.proofs.lemmas.Option.{same_Some, none-some}
use Rattle.std.proofs.lemmas.List.{map-append}
use Rattle.lh_time.specs.declared.Instant.{Instant}
use Rattle.lh_time.specs.Due.{due_of}
use Rattle.lh_types.specs.Types.{TypeTree, time_type, void_type, int_type, array_type, tuple_type, pointer_type, signal_type}
use Rattle.lh_types.specs.Values.{Datum}
use Rattle.lh_types.specs.Fits.{FitsType}
use Rattle.lh_types.specs.Wish.{Wish}
use Rattle.lh_types.specs.declared.op.Op.TheVariants.{Not}
use Rattle.lh_types.specs.declared.part.Range.{Range}
use Rattle.lh_unit.specs.Contents.{InstText, br_text, branch_text, wait_text, halt_text, ret_text, LineText, BlockText, UnitText}
use Rattle.lh_unit_names.specs.Names.{same_name}
use Rattle.lh_unit.specs.Named.{block_of}
use Rattle.lh_unit.specs.Held.{Env, as_test, as_delay, front, test_at, parts_at, delay_at}
use Rattle.lh_unit.specs.Kinds.{Kind, a_datum, a_time, a_pointer, kind_of, takes as kind_takes, Use, used, uses, maybe_used, signal_needed, time_needed}
use Rattle.lh_unit.specs.Places.{is_terminator, leads_to}
use Rattle.lh_unit.specs.Typing.{value_type}
use Rattle.lh_unit.specs.TypingRows.{bit}
use Rattle.lh_unit.specs.WellFormed.{labels_named}
use Rattle.lh_unit.specs.Within.{Each}
use Rattle.lh_unit.specs.declared.inst.UnitKind.TheVariants as kind
use Rattle.lh_unit.specs.Activation as machine
use Rattle.lh_unit.specs.Activation.{Scene, Point, Activated, Stand, goes, entered, step, executes, run, went}
use Rattle.lh_verify_laws.specs.Defined.{IsThere, OperandsThere}
use Rattle.lh_verify_laws.specs.KindsOf.{HasTypeOfKind}
use Rattle.lh_verify_laws.specs.Operands.{IsOf, MayBeOf, RowIs}
use Rattle.lh_flat.specs.Flat.{FlatBlockText, with_merge, as_block}
use Rattle.lh_verify_laws.proofs.EachItem.{each-split}
use Rattle.lh_verify_laws.proofs.There.{first-name, second-name}
use Rattle.lh_verify_laws.proofs.AtPlaces.{place-at}
use Rattle.lh_flat_laws.specs.Formed.{IsWithoutCalls}
use Rattle.lh_term.specs.Tree.{Tree}
use Rattle.lh_term.specs.Mean.{Valuation, IsFitting, mean}
use Rattle.lh_term.specs.Make.{make_operation}
use Rattle.lh_term.specs.declared.part.Part.{Part}
use Rattle.lh_term.proofs.TermTypes.{mean_fits}
use Rattle.lh_region_def.specs.Known.{Knowledge, value_known, parts_known}
use Rattle.lh_region_def.specs.Rows.{halts, waits, RegionEnd}
use Rattle.lh_region_def.specs.Joins.{RegionPlace, RegionEdge}
use Rattle.lh_region_def.specs.Places.{Region, Here, Midst, block_number, both, leads, branches, wait_way, ends_if, takes, takes_all}
use Rattle.lh_region_def.specs.Typed.{KnowsTyped, KnowsThere, IsCondition}
use Rattle.lh_region_def.specs.Means.{range_in, reads, KnownIsHeld, with_rows}
use Rattle.lh_region_def.specs.Right.{BlockAt, PhisGiven, JoinsAt}
use Rattle.lh_region_def.proofs.Sites.{Site, site-at}
use Rattle.lh_region_def.proofs.MergedValues.{one, mean-bit, and-one, not-one, not-condition}
use Rattle.lh_region_def.proofs.Operations.{IsOfSome, datum-shown, parts-shown, value-known, part-known}
use Rattle.lh_region_def.proofs.KnowledgeChanges.{phis-more}
use Rattle.lh_region_def.proofs.Steps.{RegionOf, Target, target, text-at, Led, led_never, led_edge, led_head, leads-led}
use Rattle.lh_region_def.proofs.LineEffects as Taking
use Rattle.lh_region_def.proofs.BlockLines as Leading
use Rattle.lh_region_def.proofs.BlockExecution as Executing
use Rattle.lh_region_def.proofs.LiveEdges as Living
use Rattle.lh_region_def.proofs.BlockLeaves as Leaving
use Rattle.lh_region_def.proofs.BlockExecution.{delay-of-time}
use Rattle.lh_eval.proofs.ValuesFit.{test-truth}

-- an operand of the kind of signals is a signal
pub signal-of : (u : UnitText) (m : List ℕ) → HasTypeOfKind u (used signal_needed m) → (t : TypeTree) × IsOf u (signal_type t) m
signal-of u m k = by k.0 k.1 k.2 k.3 k.4
  where
    by : (t : TypeTree) (c : Kind) → value_type u m ≡ Some t → kind_of t ≡ Some c → kind_takes signal_needed c ≡ true → (t : TypeTree) × IsOf u (signal_type t) m
    by (signal_type t) c v q w = (t, v)
    by (int_type a) c v q w = absurd (false≢true (ap (kind_takes signal_needed) (same_Some a_datum c q) ∙ w))
    by (array_type a t) c v q w = absurd (false≢true (ap (kind_takes signal_needed) (same_Some a_datum c q) ∙ w))
    by (tuple_type ts) c v q w = absurd (false≢true (ap (kind_takes signal_needed) (same_Some a_datum c q) ∙ w))
    by time_type c v q w = absurd (false≢true (ap (kind_takes signal_needed) (same_Some a_time c q) ∙ w))
    by (pointer_type t) c v q w = absurd (false≢true (ap (kind_takes signal_needed) (same_Some a_pointer c q) ∙ w))
    by void_type c v q w = absurd (none-some c q)

module _ (u : UnitText) (g : Region) (r : RegionOf u g) (i : ℕ) (b : FlatBlockText) (bat : BlockAt g.blocks i b) (h : Here) (hl : h.label ≡ b.label) (hc : IsCondition h.cond)
    (s : Scene) (args : List Range) (past now : Valuation) (p : IsFitting past) (n : IsFitting now) (probe : (x : Part) → mean past now (g.probe x) ≡ reads args s.now x)
    (more : List RegionPlace) where
  abbrev v : Tree → Datum
  v = mean past now

  abbrev shows : Knowledge → Env → Type 0
  shows = KnownIsHeld u v (range_in args)

  abbrev true-here : Tree → Bool
  true-here = one past now p n

  abbrev NoLive : List RegionEdge → Type 0
  NoLive es = Living.NoLive u args past now more es

  abbrev NoEnd : List RegionEnd → Type 0
  NoEnd xs = Living.NoEnd u args past now xs

  abbrev pub Left : Midst → Env → Type 0
  Left = Leaving.Left u g r i b bat h hl hc s args past now p n more

  abbrev pub goes_on : (m : Midst) (e : Env) → Left m e → Wish → List Bool → ℕ → Option Activated
  goes_on m e = Leaving.goes_on u g r i b bat h hl hc s args past now p n more m e

  abbrev point : Env → List LineText → Wish → List Bool → Point
  point e ls w o = record { control = record { unit = u; block = b.label; rest = ls; held = e }; callers = []; wish = w; outcomes = o }

  -- the last instruction of the block
  record Ended (l : LineText) (after : List LineText) (e : Env) (w : Wish) (o : List Bool) (m m' : Midst) : Type 0 where
    left : Left m' e
    runs : (k : ℕ) → run (suc k) s (point e (l ∷ after) w o) ≡ goes_on m' e left w o k
    drives : m'.rows.drives ≡ m.rows.drives
    asserts : m'.rows.asserts ≡ m.rows.asserts

  module _ (before : List LineText) (l : LineText) (after : List LineText) (split : with_merge b.merge b.lines ≡ before ++ l ∷ after) (site : Site u (as_block b) before l after)
      (last : is_terminator l.inst ≡ true)
      (m : Midst) (typed : KnowsTyped u m.known) (there : KnowsThere u (as_block b) before m.known) (e : Env) (sh : shows m.known e) (w : Wish) (o : List Bool) (reached : true-here h.cond ≡ true)
      (none : NoLive m.edges) (clear : NoEnd m.rows.ends) where
    abbrev Operands : InstText → Type 0
    Operands j = OperandsThere kind.Proc u (place-at site.number site.entry (as_block b) before l after) j

    abbrev Labels : InstText → Type 0
    Labels j = Each (λ n. (c : BlockText) × (block_of n u.blocks ≡ Some c)) (labels_named j)

    abbrev here : Point
    here = point e after w o

    step-is : (j : InstText) → l.inst ≡ j → step s (point e (l ∷ after) w o) ≡ executes s j l.result here
    step-is j q = ap (λ x. executes s x l.result here) q

    split' : with_merge b.merge b.lines ≡ before ++ l ∷ []
    split' = Leading.ends-here u g r i b bat h hl hc before l after split site last m.known typed there

    abbrev LedHere : Tree → Midst → ℕ → Midst → Type 0
    LedHere = Led u g r i b bat h hl before l split' last m.known typed there

    -- the block of a label, entered
    record Into (to : List ℕ) : Type 0 where
      target : Target u g r i b bat h hl to
      entered : Leaving.Entered u g r i b bat h hl hc s args past now p n more target.number e
      label : entered.block.label ≡ to

    into : (to : List ℕ) → list_any (λ m. same_name m to) (leads_to l.inst) ≡ true → (c : BlockText) × (block_of to u.blocks ≡ Some c) → Into to
    into to named c =
        let t = target u g r i b bat h hl to c in
        let j : JoinsAt u g t.number h.label m.known = Leading.joins-here u g r i b bat h hl hc before l after split site last m.known typed there to named t in
        let en = Leaving.enters u g r i b bat h hl hc s args past now p n more t.number m.known e j sh in
        record { target = t; entered = en; label = ap (λ (x : FlatBlockText). x.label) (same_Some en.block t.block (sym en.at.at ∙ t.at.at)) ∙ t.label }

    entered-is : (to : List ℕ) (x : Into to) → machine.entered u e b.label to
        ≡ Some (record { unit = u; block = x.entered.block.label; rest = with_merge x.entered.block.merge x.entered.block.lines; held = x.entered.held })
    entered-is to x = Leaving.entered-is u g r i b bat h hl hc s args past now p n more to x.target.number e x.entered x.label

    -- led by a condition that holds
    ended-by : (c : Tree) (m1 : Midst) (to : List ℕ) (x : Into to) → LedHere c m1 x.target.number (leads g h c to m1) → true-here c ≡ true → NoLive m1.edges → NoEnd m1.rows.ends → shows m1.known e
        → step s (point e (l ∷ after) w o) ≡ machine.jumps here (machine.entered u e b.label to)
        → (y : Left (leads g h c to m1) e) × ((k : ℕ) → run (suc k) s (point e (l ∷ after) w o) ≡ goes_on (leads g h c to m1) e y w o k)
    ended-by c m1 to x d t a z sh1 go =
        let y = Leaving.led-taken u g r i b bat h hl hc s args past now p n more before l split' last m.known typed there c m1 x.target.number (leads g h c to m1) d t a z e sh1 x.entered in
        (y.0, λ k. ap (λ q. went q (run k s)) (go ∙ ap (machine.jumps here) (entered-is to x)) ∙ sym (y.1 w o k))

    led : (c : Tree) (m1 : Midst) (to : List ℕ) (x : Into to) → LedHere c m1 x.target.number (leads g h c to m1)
    led c m1 to x = leads-led u g r i b bat h hl before l split' last m.known typed there c m1 to x.target

    led-drives : (c : Tree) (m1 : Midst) (j : ℕ) (m2 : Midst) → LedHere c m1 j m2 → (m2.rows.drives ≡ m1.rows.drives) × (m2.rows.asserts ≡ m1.rows.asserts)
    led-drives c m1 j _ (led_never z) = (refl, refl)
    led-drives c m1 j _ led_edge = (refl, refl)
    led-drives c m1 j _ (led_head y q) = (refl, refl)

    br-ended : (to : List ℕ) → l.inst ≡ br_text to → Labels (br_text to) → Ended l after e w o m (takes g h (br_text to) l.result m)
    br-ended to q x =
        let z = into to (ap (λ j. list_any (λ m. same_name m to) (leads_to j)) q ∙ first-name to []) x.0 in
        let d = led h.cond m to z in
        let y = ended-by h.cond m to z d reached none clear sh (step-is (br_text to) q) in
        let f = led-drives h.cond m z.target.number (leads g h h.cond to m) d in
        record { left = y.0; runs = y.1; drives = f.0; asserts = f.1 }

    -- a branch on a condition, which is the second label's or the first's
    abbrev not-first : Tree → Tree
    not-first t = both h.cond (make_operation Not (t ∷ []))

    branch-goes : (c first second : List ℕ) → l.inst ≡ branch_text c first second → IsOf u bit c → (t : Tree) → value_known m.known c ≡ Some t → IsCondition t → (d : Bool) → true-here t ≡ d
        → step s (point e (l ∷ after) w o) ≡ machine.jumps here (option_and_then (machine.entered u e b.label) (machine.chosen (Some d) first second))
    branch-goes c first second q row t kn ct d f =
        let tested : test_at e c ≡ Some d = ap (option_and_then as_test) (datum-shown u v (range_in args) m.known e sh c bit t row kn) ∙ ap as_test (mean-bit past now p n t ct)
        ∙ test-truth (true-here t) ∙ ap Some f in
        step-is (branch_text c first second) q ∙ ap (λ y. machine.jumps here (option_and_then (machine.entered u e b.label) (machine.chosen y first second))) tested

    branch-second : (first second : List ℕ) (t : Tree) → IsCondition t → Into first → Into second → true-here t ≡ true
        → step s (point e (l ∷ after) w o) ≡ machine.jumps here (machine.entered u e b.label second)
        → Ended l after e w o m (leads g h (both h.cond t) second (leads g h (not-first t) first m))
    branch-second first second t ct z0 z1 f go =
        let n0 : true-here (not-first t) ≡ false = and-one past now p n h.cond (make_operation Not (t ∷ [])) hc (not-condition t ct) ∙ ap (λ x. x && true-here (make_operation Not (t ∷ []))) reached
        ∙ not-one past now p n t ct ∙ ap not f in
        let n1 : true-here (both h.cond t) ≡ true = and-one past now p n h.cond t hc ct ∙ ap (λ x. x && true-here t) reached ∙ f in
        let d0 = led (not-first t) m first z0 in
        let d1 = led (both h.cond t) (leads g h (not-first t) first m) second z1 in
        let a0 = led-drives (not-first t) m z0.target.number (leads g h (not-first t) first m) d0 in
        let a1 = led-drives (both h.cond t) (leads g h (not-first t) first m) z1.target.number (leads g h (both h.cond t) second (leads g h (not-first t) first m)) d1 in
        let un = Leaving.untaken u g r i b bat h hl hc s args past now p n more before l split' last m.known typed there (not-first t) m z0.target.number (leads g h (not-first t) first m) d0 n0 in
        let y = ended-by (both h.cond t) (leads g h (not-first t) first m) second z1 d1 n1 (un.0 none) (un.1 clear) (subst (λ k. shows k e) (sym un.2) sh) go in
        record { left = y.0; runs = y.1; drives = a1.0 ∙ a0.0; asserts = a1.1 ∙ a0.1 }

    branch-first : (first second : List ℕ) (t : Tree) → IsCondition t → Into first → Into second → true-here t ≡ false
        → step s (point e (l ∷ after) w o) ≡ machine.jumps here (machine.entered u e b.label first)
        → Ended l after e w o m (leads g h (both h.cond t) second (leads g h (not-first t) first m))
    branch-first first second t ct z0 z1 f go =
        let n0 : true-here (not-first t) ≡ true = and-one past now p n h.cond (make_operation Not (t ∷ [])) hc (not-condition t ct) ∙ ap (λ x. x && true-here (make_operation Not (t ∷ []))) reached
        ∙ not-one past now p n t ct ∙ ap not f in
        let n1 : true-here (both h.cond t) ≡ false = and-one past now p n h.cond t hc ct ∙ ap (λ x. x && true-here t) reached ∙ f in
        let m1 : Midst = leads g h (not-first t) first m in
        let m2 : Midst = leads g h (both h.cond t) second m1 in
        let d0 = led (not-first t) m first z0 in
        let d1 = led (both h.cond t) (leads g h (not-first t) first m) second z1 in
        let a0 = led-drives (not-first t) m z0.target.number (leads g h (not-first t) first m) d0 in
        let a1 = led-drives (both h.cond t) (leads g h (not-first t) first m) z1.target.number (leads g h (both h.cond t) second (leads g h (not-first t) first m)) d1 in
        let un = Leaving.untaken u g r i b bat h hl hc s args past now p n more before l split' last m.known typed there (both h.cond t) (leads g h (not-first t) first m) z1.target.number
        (leads g h (both h.cond t) second (leads g h (not-first t) first m)) d1 n1 in
        let y = ended-by (not-first t) m first z0 d0 n0 none clear sh go in
        let z = Leaving.left-more u g r i b bat h hl hc s args past now p n more m1 m2 e y.0 un.0 un.3 un.1 un.4 in
        record { left = z.0; runs = λ k. y.1 k ∙ sym (z.1 w o k); drives = a1.0 ∙ a0.0; asserts = a1.1 ∙ a0.1 }

    branch-ended : (c first second : List ℕ) → l.inst ≡ branch_text c first second → RowIs u (branch_text c first second) → Operands (branch_text c first second) → Labels (branch_text c first second)
        → Ended l after e w o m (takes g h (branch_text c first second) l.result m)
    branch-ended c first second q row k x =
        let t = Taking.bit-known u g r i b bat h hl hc before l after site m typed there c row k.0 in
        let z0 = into first (ap (λ j. list_any (λ m. same_name m first) (leads_to j)) q ∙ first-name first (second ∷ [])) x.0 in
        let z1 = into second (ap (λ j. list_any (λ m. same_name m second) (leads_to j)) q ∙ second-name first second) x.1.0 in
        subst (λ y. Ended l after e w o m (branches g h y first second m)) (sym t.1) (by t.0 t.1 t.2 z0 z1 (true-here t.0) refl)
      where
        by : (t : Tree) → value_known m.known c ≡ Some t → IsCondition t → Into first → Into second → (d : Bool) → true-here t ≡ d
            → Ended l after e w o m (leads g h (both h.cond t) second (leads g h (not-first t) first m))
        by t kn ct z0 z1 true f = branch-second first second t ct z0 z1 f (branch-goes c first second q row t kn ct true f)
        by t kn ct z0 z1 false f = branch-first first second t ct z0 z1 f (branch-goes c first second q row t kn ct false f)

    halt-ended : l.inst ≡ halt_text → Ended l after e w o m (takes g h halt_text l.result m)
    halt-ended q =
        let x : RegionEnd = record { cond = h.cond; way = halts; from = h.label; known = m.known } in
        record {
          left = Leaving.stops machine.halted none x (Living.new-end u args past now m.rows.ends x clear reached) refl refl sh;
          runs = λ k. ap (λ y. went y (run k s)) (step-is halt_text q);
          drives = refl;
          asserts = refl;
        }

    -- the parts of a `wait` are known, and held
    signals-known : (ns : List (List ℕ)) → Each (HasTypeOfKind u) (map (used signal_needed) ns) → Each (IsThere u (as_block b) before) (map (λ (x : Use). x.value) (map (used signal_needed) ns))
        → (ps : List Part) × (parts_known m.known ns ≡ Some ps) × Each (IsOfSome u) ns
    signals-known [] a c = ([], refl, tt)
    signals-known (x ∷ ns) a c =
        let t = signal-of u x a.0 in
        let y = part-known u m.known typed x t.0 t.1 (there x (signal_type t.0) t.1 (λ z. cc) c.0) in
        let ys = signals-known ns a.1 c.1 in
        (y.0 ∷ ys.0, ap (λ z. front z (parts_known m.known ns)) y.1 ∙ ap (front (Some y.0)) ys.1, ((signal_type t.0, t.1), ys.2))

    wake-known : (after' : Option (List ℕ)) → MayBeOf u time_type after' → Each (IsThere u (as_block b) before) (map (λ (x : Use). x.value) (maybe_used time_needed after')) → (wake : Option Instant)
        × (machine.wake_at s.at e after' ≡ Some wake) × (is_some after' ≡ false → wake ≡ None)
    wake-known None a c = (None, refl, λ z. refl)
    wake-known (Some x) a c =
        let t = value-known u m.known typed x time_type a refl (there x time_type a (λ z. cc) c.0) in
        let d = delay-of-time (v t.0) (subst (FitsType (v t.0)) t.2.type (mean_fits past now p n t.0 t.2.typed)) in
        let held : delay_at e x ≡ Some d.0 = ap (option_and_then as_delay) (datum-shown u v (range_in args) m.known e sh x time_type t.0 a t.1) ∙ d.1 in
        (due_of s.at d.0, ap (option_map (due_of s.at)) held, λ z. absurd (false≢true (sym z)))

    wait-ended : (to : List ℕ) (after' : Option (List ℕ)) (on : List (List ℕ)) → l.inst ≡ wait_text to after' on → RowIs u (wait_text to after' on) → Operands (wait_text to after' on)
        → Labels (wait_text to after' on) → Each (HasTypeOfKind u) (uses (wait_text to after' on)) → Ended l after e w o m (takes g h (wait_text to after' on) l.result m)
    wait-ended to after' on q row k x c =
        let t = target u g r i b bat h hl to x.0 in
        let k' : Each (IsThere u (as_block b) before) (map (λ (x : Use). x.value) (maybe_used time_needed after') ++ map (λ (x : Use). x.value) (map (used signal_needed) on)) = subst
        (Each (IsThere u (as_block b) before)) (map-append (λ (x : Use). x.value) (maybe_used time_needed after') (map (used signal_needed) on)) k in
        let ks = each-split (IsThere u (as_block b) before) (map (λ (x : Use). x.value) (maybe_used time_needed after')) (map (λ (x : Use). x.value) (map (used signal_needed) on)) k' in
        let cs = each-split (HasTypeOfKind u) (maybe_used time_needed after') (map (used signal_needed) on) c in
        let ps = signals-known on cs.1 ks.1 in
        let wake = wake-known after' row ks.0 in
        let parts = parts-shown u v (range_in args) m.known e sh on ps.0 ps.2 ps.1 in
        let y : RegionEnd = record { cond = h.cond; way = waits t.number (nat_eq t.number g.head) ps.0 (is_some after'); from = h.label; known = m.known } in
        let st : Stand = machine.waits b.label to (map (range_in args) ps.0) wake.0 in
        let stood : machine.waiting b.label to (parts_at e on) (machine.wake_at s.at e after') ≡ Some st = λ j. machine.waiting b.label to (parts j) (wake.1 j) in
        let way : wait_way g (is_some after') (block_number to g.blocks) (parts_known m.known on) ≡ Some y.way = λ j. wait_way g (is_some after') (t.is j) (ps.1 j) in
        let stand : st ≡ machine.waits h.label t.block.label (map (range_in args) ps.0) wake.0 = λ j. machine.waits (sym hl j) (sym t.label j) (map (range_in args) ps.0) wake.0 in
        subst (λ z. Ended l after e w o m (ends_if h m z)) (sym way) (record {
          left = Leaving.stops st none y (Living.new-end u args past now m.rows.ends y clear reached) (t.block, t.at.at, wake.0, stand, wake.2) refl sh;
          runs = λ k. ap (λ y. went y (run k s)) (step-is (wait_text to after' on) q ∙ ap (machine.ends_at here []) stood);
          drives = refl;
          asserts = refl;
        })

    -- What the last instruction does.
    ended : Ended l after e w o m (takes g h l.inst l.result m)
    ended = by l.inst refl last site.sound.row site.calls site.there site.leads site.kinds
      where
        by : (j : InstText) → l.inst ≡ j → is_terminator j ≡ true → RowIs u j → IsWithoutCalls u j → Operands j → Labels j → Each (HasTypeOfKind u) (uses j)
            → Ended l after e w o m (takes g h j l.result m)
        by (br_text to) q t row c k x y = br-ended to q x
        by (branch_text f first second) q t row c k x y = branch-ended f first second q row k x
        by (wait_text to after' on) q t row c k x y = wait-ended to after' on q row k x y
        by halt_text q t row c k x y = halt-ended q
        by (ret_text a) q t row c k x y = absurd c
        by _ q t row c k x y = absurd (false≢true t)

  -- ---- the whole block

  -- so many instructions from a point of the block lead out of it
  pub record Ran (ls : List LineText) (e : Env) (w : Wish) (o : List Bool) (m m' : Midst) : Type 0 where
    pub steps : ℕ
    pub within : steps ≤ length ls
    pub held : Env
    pub wish : Wish
    pub outcomes : List Bool
    pub left : Left m' held
    pub runs : (k : ℕ) → run (steps + k) s (point e ls w o) ≡ goes_on m' held left wish outcomes k
    pub wished : (w0 : Wish) → w ≡ with_rows past now args s.at w0 m.rows.drives → wish ≡ with_rows past now args s.at w0 m'.rows.drives
    pub told : m'.rows.asserts ≡ [] → (outcomes ≡ o) × (m.rows.asserts ≡ [])

  NotNil : List LineText → Type 0
  NotNil ls = ls ≡ [] → ⊥

  one-more : (x k : ℕ) → suc x + k ≡ suc (x + k)
  one-more x k = omega arith

  pub lines-run : (before ls : List LineText) → with_merge b.merge b.lines ≡ before ++ ls → (ls ≡ [] → ⊥) → (m : Midst) → KnowsTyped u m.known → KnowsThere u (as_block b) before m.known
      → PhisGiven m.known ls → (e : Env) → shows m.known e → (w : Wish) (o : List Bool) → true-here h.cond ≡ true → NoLive m.edges → NoEnd m.rows.ends
      → Ran ls e w o m (takes_all g h ls m)
  lines-run before [] split full m typed there ph e sh w o reached none clear = absurd (full refl)
  lines-run before (l ∷ ls) split full m typed there ph e sh w o reached none clear =
      by (is_terminator l.inst) refl (site-at u r.formed i (as_block b) before l ls (text-at u g r i b bat h hl i b bat) split)
      (lines-run (before ++ l ∷ []) ls (split ∙ sym (append_assoc before (l ∷ []) ls)))
    where
      inner : is_terminator l.inst ≡ false → (site : Site u (as_block b) before l ls)
          → ((ls ≡ [] → ⊥) → (m : Midst) → KnowsTyped u m.known → KnowsThere u (as_block b) (before ++ l ∷ []) m.known → PhisGiven m.known ls → (e : Env) → shows m.known e → (w : Wish) (o : List Bool)
          → true-here h.cond ≡ true → NoLive m.edges → NoEnd m.rows.ends → Ran ls e w o m (takes_all g h ls m))
          → Ran (l ∷ ls) e w o m (takes_all g h (l ∷ ls) m)
      inner t site go =
          let m1 : Midst = takes g h l.inst l.result m in
          let d = Leading.takes-took u g r i b bat h hl hc before l ls split site m typed there ph.0 in
          let x = Executing.executed u g r i b bat h hl hc s args past now p n probe before l ls site m typed there e sh w o reached t in
          let f = go (site.more t) m1 d.typed d.there (phis-more m.known m1.known ls d.stays ph.1) x.held x.shown x.wish x.outcomes reached (subst NoLive (sym x.edges) none)
          (subst NoEnd (sym x.ends) clear) in
          record {
            steps = suc f.steps;
            within = omega (arith, f.within);
            held = f.held;
            wish = f.wish;
            outcomes = f.outcomes;
            left = f.left;
            runs = λ k. ap (λ y. run y s (point e (l ∷ ls) w o)) (one-more f.steps k) ∙ ap (λ y. went y (run (f.steps + k) s)) x.goes ∙ f.runs k;
            wished = λ w0 z. f.wished w0 (x.wished w0 z);
            told = λ z. let a = f.told z in let c = x.told a.1 in (a.0 ∙ c.0, c.1);
          }

      last : is_terminator l.inst ≡ true → (site : Site u (as_block b) before l ls) → Ran (l ∷ ls) e w o m (takes_all g h (l ∷ ls) m)
      last t site =
          let x = ended before l ls split site t m typed there e sh w o reached none clear in
          subst (λ rest. Ran (l ∷ ls) e w o m (takes_all g h rest (takes g h l.inst l.result m))) (sym (site.last t)) (record {
            steps = 1;
            within = omega arith;
            held = e;
            wish = w;
            outcomes = o;
            left = x.left;
            runs = λ k. ap (λ y. run y s (point e (l ∷ ls) w o)) (one-more 0 k ∙ ap suc (zero-more k)) ∙ x.runs k;
            wished = λ w0 z. z ∙ ap (with_rows past now args s.at w0) (sym x.drives);
            told = λ z. (refl, sym x.asserts ∙ z);
          })
        where
          zero-more : (k : ℕ) → 0 + k ≡ k
          zero-more k = omega arith

      by : (t : Bool) → is_terminator l.inst ≡ t → Site u (as_block b) before l ls
          → ((ls ≡ [] → ⊥) → (m : Midst) → KnowsTyped u m.known → KnowsThere u (as_block b) (before ++ l ∷ []) m.known → PhisGiven m.known ls → (e : Env) → shows m.known e → (w : Wish) (o : List Bool)
          → true-here h.cond ≡ true → NoLive m.edges → NoEnd m.rows.ends → Ran ls e w o m (takes_all g h ls m))
          → Ran (l ∷ ls) e w o m (takes_all g h (l ∷ ls) m)
      by true t site go = last t site
      by false t site go = inner t site go
