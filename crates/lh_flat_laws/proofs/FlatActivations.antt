-- Each activation of a flat text is one of its process.
use Rattle.std.proofs.Common.{◌≡◌, ◌⊎◌, ℕ, zero, suc, ◌+◌, ◌<◌, ◌≤◌, inl, inr, Bool, true, false, nat_lt, if◌then◌else◌, List, [], ◌∷◌, ◌++◌, length, map, Option, Some, None, refl, ap, sym, ◌∙◌, subst, arith}
use Rattle.std.specs.List.{flat_map}
use Rattle.std.specs.Option.{option_map, option_map_or, option_and_then}
use Rattle.std.proofs.lemmas.Option.{same_Some, none-some}
use Rattle.lh_types.specs.declared.part.Range.{Range}
use Rattle.lh_unit_names.specs.declared.name.UnitName.{UnitName}
use Rattle.lh_types.specs.Types.{TypeTree}
use Rattle.lh_unit.specs.Contents.{OperandText, InstText, const_text, pure_text, var_text, ld_text, st_text, sig_text, prb_text, drv_text, reg_text, child_text, call_text, phi_text, br_text, branch_text, wait_text, halt_text, ret_text, LineText, BlockText, ArgText, UnitText}
use Rattle.lh_unit.specs.Named.{block_of, function_named, label_or}
use Rattle.lh_unit_names.specs.UnitNames.{is_assert}
use Rattle.lh_unit.specs.Held.{Held, Env, data_at, part_held, nothing_held, with_held, with_args}
use Rattle.lh_unit.specs.Activation.{Scene, Stand, is_new, waits, halted, ProcessState, Control, Point, Activated, Next, goes, ends, no_step, tells, opens, called, asserted, executes, steps_by, step, went, run, entered, at_first, entry, control_from, control_at, start_point, activate}
use Rattle.lh_unit.specs.Within.{Each}
use Rattle.lh_verify_laws.specs.Shape.{EndsOnce}
use Rattle.lh_flat.specs.Calls.{callees, recursion_from, nest_deeper}
use Rattle.lh_flat.specs.Copies.{Copy, top_copy, call_path, copy_at, opened, first_piece, last_piece_of, copied}
use Rattle.lh_flat.specs.Flat.{FlatText, flattened, flattened_by, flat_in, flat_unit, text_of, inst_count, max_nested, max_flat, with_line, pieces_from, flat_block, flat_copy, as_block}
use Rattle.lh_flat.specs.Marks.{IsPlain}
use Rattle.lh_flat_laws.specs.Tidy.{ArgsOnce, LineTidy, BlockTidy, UnitTidy, FunctionsTidy}
use Rattle.lh_flat_laws.specs.Activates.{ActivationGoesOn, Proceeds, flat_stand, StandIsPlain, FlatHoldsMore, StandsAlike, EndsAlike, ActivatesAlike, BeginsAlike}
use Rattle.lh_flat.proofs.Marks.{Names, one, two, names}
use Rattle.lh_flat_laws.proofs.HeldValues.{Holds}
use Rattle.lh_flat_laws.proofs.LastPieces.{each-middle, ends-last}
use Rattle.lh_flat_laws.proofs.Alike.{flat, InPlace, Runs, Alike, block-tidy}
use Rattle.lh_flat_laws.proofs.CopyPoints.{Follows, Meets, enters, first-runs, past, runs-past}
use Rattle.lh_flat_laws.proofs.CopiedSteps.{Simple, executes-follow}
use Rattle.lh_flat_laws.proofs.CallSteps.{first-named, call-follows}
use Rattle.lh_flat_laws.proofs.ReturnSteps.{ret-follows}

-- more instructions may be executed
pub run-more : (n : ℕ) (s : Scene) (p : Point) (d : Activated) → run n s p ≡ Some d → run (suc n) s p ≡ Some d
run-more zero s p d e = absurd (none-some d e)
run-more (suc n) s p d e = by (step s p) (λ q. run-more n s q d) e
  where
    by : (x : Next) → ((q : Point) → run n s q ≡ Some d → run (suc n) s q ≡ Some d) → went x (run n s) ≡ Some d → went x (run (suc n) s) ≡ Some d
    by (goes q) go h = go q h
    by (ends y) go h = h
    by no_step go h = h

pub run-longer : (n m : ℕ) (s : Scene) (p : Point) (d : Activated) → n ≤ m → run n s p ≡ Some d → run m s p ≡ Some d
run-longer n zero s p d l e = subst (λ k. run k s p ≡ Some d) (none n l) e
  where
    none : (n : ℕ) → n ≤ 0 → n ≡ 0
    none n l = omega arith
run-longer zero (suc m) s p d l e = absurd (none-some d e)
run-longer (suc n) (suc m) s p d l e = by (step s p) (λ q. run-longer n m s q d (less n m l)) e
  where
    less : (n m : ℕ) → suc n ≤ suc m → n ≤ m
    less n m l = omega arith

    by : (x : Next) → ((q : Point) → run n s q ≡ Some d → run m s q ≡ Some d) → went x (run n s) ≡ Some d → went x (run m s) ≡ Some d
    by (goes q) go h = go q h
    by (ends y) go h = h
    by no_step go h = h

goes-less : (n : ℕ) (s : Scene) (p : Point) → ActivationGoesOn (suc n) s p → ActivationGoesOn n s p
goes-less zero s p g = tt
goes-less (suc n) s p g = (g.0, λ q e. goes-less n s q (g.1 q e))

pub goes-fewer : (n m : ℕ) (s : Scene) (p : Point) → n ≤ m → ActivationGoesOn m s p → ActivationGoesOn n s p
goes-fewer zero m s p l g = tt
goes-fewer (suc n) zero s p l g = absurd (omega (arith, l))
goes-fewer (suc n) (suc m) s p l g = (g.0, λ q e. goes-fewer n m s q (omega (arith, l)) (g.1 q e))

module _ (s : Scene) (u : UnitText) (name : UnitName) (top : ℕ) (w : FunctionsTidy s.functions) where
  -- a line that opens no copy
  past-alike : (p f : Point) (a : Alike s u name top w p f) (l : LineText) (rest : List LineText) → p.control.rest ≡ l ∷ rest
      → opened s.functions a.copy (call_path a.copy p.control.block (length a.runs.before)) l.inst ≡ None
      → Alike s u name top w (past s u name top w p rest) (past s u name top w f (pieces_from (flat_copy a.left s.functions) s.functions a.copy p.control.block (length a.runs.before + 1) rest).rest)
  past-alike p f a l rest e q = record {
    copy = a.copy;
    left = a.left;
    place = a.place;
    runs = runs-past s u name top w a.left a.copy p.control f.control.block f.control.block rest
        (pieces_from (flat_copy a.left s.functions) s.functions a.copy p.control.block (length a.runs.before + 1) rest).rest l a.runs.text a.runs.before a.runs.unit a.runs.stands
        (a.runs.split ∙ ap (λ ls. a.runs.before ++ ls) e) a.runs.here (sym (ap (λ o. option_map_or (λ (d : Copy). d.path) o f.control.block) q)) refl;
    unit = a.unit;
    holds = a.holds;
    callers = a.callers;
    none = a.none;
    count = a.count;
    wish = a.wish;
    outcomes = a.outcomes;
  }

  module _ (p f : Point) (a : Alike s u name top w p f) (l : LineText) (rest : List LineText) (e : p.control.rest ≡ l ∷ rest) where
    abbrev behind : List LineText
    behind = (pieces_from (flat_copy a.left s.functions) s.functions a.copy p.control.block (length a.runs.before + 1) rest).rest

    tidy : BlockTidy s.functions a.copy.unit a.runs.text
    tidy = block-tidy s u name top w a.left a.copy p.control.block a.runs.text a.place a.runs.stands

    split : a.runs.text.lines ≡ a.runs.before ++ l ∷ rest
    split = a.runs.split ∙ ap (λ ls. a.runs.before ++ ls) e

    line-tidy : LineTidy s.functions a.copy.unit l
    line-tidy = each-middle (LineTidy s.functions a.copy.unit) a.runs.before rest l a.runs.text.lines split tidy.lines

    -- the flat text executes the copy of the line
    copied-step : opened s.functions a.copy (call_path a.copy p.control.block (length a.runs.before)) l.inst ≡ None
        → step s f ≡ executes s (copied s.functions a.copy l.inst) (option_map a.copy.value l.result) (past s u name top w f behind)
    copied-step q =
        ap (steps_by s f)
        (a.runs.next
        ∙ ap (λ ls. (pieces_from (flat_copy a.left s.functions) s.functions a.copy p.control.block (length a.runs.before) ls).rest) e
        ∙ ap (λ z. (with_line (flat_copy a.left s.functions) s.functions a.copy l z
        (pieces_from (flat_copy a.left s.functions) s.functions a.copy p.control.block (length a.runs.before + 1) rest)).rest) q)

    simple : Simple s u name top w l.inst → opened s.functions a.copy (call_path a.copy p.control.block (length a.runs.before)) l.inst ≡ None
        → Follows s u name top w (executes s l.inst l.result (past s u name top w p rest)) (step s f)
    unfolding past-alike
    simple m q =
        subst (Follows s u name top w (executes s l.inst l.result (past s u name top w p rest))) (sym (copied-step q))
        (executes-follow s u name top w (past s u name top w p rest) (past s u name top w f behind) (past-alike p f a l rest e q) l.inst l.result line-tidy.result m
        (λ t. ends-last a.runs.before rest l (subst EndsOnce split tidy.ends) t))

    -- no function has the name
    nothing-called : (g : UnitName) (ty : TypeTree) (args : List OperandText) → is_assert g ≡ false
        → opened s.functions a.copy (call_path a.copy p.control.block (length a.runs.before)) (call_text g ty args) ≡ None → function_named g s.functions ≡ None
    nothing-called g ty args b q = by (is_assert g) b (function_named g s.functions) q
      where
        by : (c : Bool) → c ≡ false → (o : Option UnitText)
            → (if c then None else option_map (copy_at (call_path a.copy p.control.block (length a.runs.before)) (map (λ (x : OperandText). a.copy.value x.value) args)) o) ≡ None → o ≡ None
        by true z o r = absurd cc
        by false z None r = refl
        by false z (Some v) r = absurd (none-some _ (sym r))

    call-by : (g : UnitName) (ty : TypeTree) (args : List OperandText) → l.inst ≡ call_text g ty args → opened s.functions a.copy (call_path a.copy p.control.block (length a.runs.before)) l.inst
        ≡ None → (b : Bool) → is_assert g ≡ b
        → Follows s u name top w (executes s l.inst l.result (past s u name top w p rest)) (step s f)
    call-by g ty args i q true b = simple (subst (Simple s u name top w) (sym i) b) q
    call-by g ty args i q false b =
        subst (λ x. Follows s u name top w x (step s f))
        (sym (ap (λ j. executes s j l.result (past s u name top w p rest)) i
        ∙ ap (λ c. if c then tells (past s u name top w p rest) (asserted p.control.held args) else opens (past s u name top w p rest) l.result
        (called (function_named g s.functions) (data_at p.control.held args))) b
        ∙ ap (λ o. opens (past s u name top w p rest) l.result (called o (data_at p.control.held args))) (nothing-called g ty args b
        (ap (opened s.functions a.copy (call_path a.copy p.control.block (length a.runs.before))) (sym i) ∙ q))))
        tt

    by-inst : (i : InstText) → l.inst ≡ i → opened s.functions a.copy (call_path a.copy p.control.block (length a.runs.before)) l.inst ≡ None
        → Follows s u name top w (executes s l.inst l.result (past s u name top w p rest)) (step s f)
    by-inst (ret_text o) i q = subst (λ j. Follows s u name top w (executes s j l.result (past s u name top w p rest)) (step s f)) (sym i) (ret-follows s u name top w p f a l rest o e i)
    by-inst (call_text g ty args) i q = call-by g ty args i q (is_assert g) refl
    by-inst (const_text d) i q = simple (subst (Simple s u name top w) (sym i) tt) q
    by-inst (pure_text op args) i q = simple (subst (Simple s u name top w) (sym i) tt) q
    by-inst (var_text x) i q = simple (subst (Simple s u name top w) (sym i) tt) q
    by-inst (ld_text x) i q = simple (subst (Simple s u name top w) (sym i) tt) q
    by-inst (st_text to value) i q = simple (subst (Simple s u name top w) (sym i) tt) q
    by-inst (sig_text x) i q = simple (subst (Simple s u name top w) (sym i) tt) q
    by-inst (prb_text x) i q = simple (subst (Simple s u name top w) (sym i) tt) q
    by-inst (drv_text to value after cond) i q = simple (subst (Simple s u name top w) (sym i) tt) q
    by-inst (reg_text to triggers) i q = simple (subst (Simple s u name top w) (sym i) tt) q
    by-inst (child_text v inputs outputs) i q = simple (subst (Simple s u name top w) (sym i) tt) q
    by-inst (phi_text ty edges) i q = simple (subst (Simple s u name top w) (sym i) tt) q
    by-inst (br_text to) i q = simple (subst (Simple s u name top w) (sym i) tt) q
    by-inst (branch_text cond first second) i q = simple (subst (Simple s u name top w) (sym i) tt) q
    by-inst (wait_text to after signals) i q = simple (subst (Simple s u name top w) (sym i) tt) q
    by-inst halt_text i q = simple (subst (Simple s u name top w) (sym i) tt) q

    by-copy : (o : Option Copy) → opened s.functions a.copy (call_path a.copy p.control.block (length a.runs.before)) l.inst ≡ o
        → Follows s u name top w (executes s l.inst l.result (past s u name top w p rest)) (step s f)
    by-copy None q = by-inst l.inst refl q
    by-copy (Some d) q = call-follows s u name top w p f a l rest d e q

    line-follows : Follows s u name top w (executes s l.inst l.result (past s u name top w p rest)) (step s f)
    line-follows = by-copy (opened s.functions a.copy (call_path a.copy p.control.block (length a.runs.before)) l.inst) refl

  -- a step of the process, and what the flat text does
  pub step-follows : (p f : Point) → Alike s u name top w p f → Follows s u name top w (step s p) (step s f)
  step-follows p f a = by p.control.rest refl
    where
      by : (ls : List LineText) → p.control.rest ≡ ls → Follows s u name top w (steps_by s p ls) (step s f)
      by [] e = tt
      by (l ∷ rest) e = line-follows p f a l rest e

  -- the end that the flat text comes to, the process comes to
  pub record Comes (n : ℕ) (p : Point) (done : Activated) : Type 0 where
    pub end : Activated
    pub comes : run n s p ≡ Some end
    pub alike : EndsAlike s.functions u end done

  few : (m n t : ℕ) → m + n ≡ t → t < 256 → 256 ≤ m → ⊥
  few m n t e l h = omega arith

  meets-comes : (n : ℕ) (p q g : Point) (done : Activated) → step s p ≡ goes q → ((h : Point) → Alike s u name top w q h → run n s h ≡ Some done → Comes n q done)
      → ((m : ℕ) (h : Point) → n ≡ suc m → Alike s u name top w q h → run m s h ≡ Some done → Comes m q done)
      → Meets s u name top w q g → run n s g ≡ Some done → Comes (suc n) p done
  meets-comes n p q g done e first other (inl a) r = let c = first g a r in record { end = c.end; comes = ap (λ x. went x (run n s)) e ∙ c.comes; alike = c.alike }
  meets-comes zero p q g done e first other (inr h) r = absurd (none-some done r)
  meets-comes (suc m) p q g done e first other (inr (h, x, a)) r =
      let c = other m h refl a (sym (ap (λ y. went y (run m s)) x) ∙ r) in record { end = c.end; comes = ap (λ y. went y (run (suc m) s)) e ∙ run-more m s q c.end c.comes; alike = c.alike }

  -- in no more than so many instructions
  run-within : (limit n : ℕ) (p f : Point) (done : Activated) → n ≤ limit → top < 256 → Alike s u name top w p f → ActivationGoesOn n s p → run n s f ≡ Some done → Comes n p done
  run-within limit zero p f done m l a g r = absurd (none-some done r)
  run-within zero (suc n) p f done m l a g r = absurd (omega (arith, m))
  run-within (suc limit) (suc n) p f done m l a g r =
      by (step s p) refl (step s f) refl (step-follows p f a)
      (λ q h z x y. run-within limit n q h done (omega (arith, m)) l x (g.1 q z) y)
      (λ q k h i z x y. run-within limit k q h done (omega (arith, m, i)) l x (goes-fewer k n s q (omega (arith, i)) (g.1 q z)) y)
    where
      by : (x : Next) → step s p ≡ x → (y : Next) → step s f ≡ y → Follows s u name top w x y → ((q h : Point) → step s p ≡ goes q → Alike s u name top w q h → run n s h ≡ Some done → Comes n q done)
          → ((q : Point) (m : ℕ) (h : Point) → n ≡ suc m → step s p ≡ goes q → Alike s u name top w q h → run m s h ≡ Some done → Comes m q done) → Comes (suc n) p done
      by no_step e y z t go other = absurd (few (length p.callers) a.left top a.count l (g.0 e))
      by (goes q) e (goes h) z t go other = meets-comes n p q h done e (λ k. go q k e) (λ m k i. other q m k i e) t (sym (ap (λ y. went y (run n s)) z) ∙ r)
      by (goes q) e (ends d) z t go other = absurd t
      by (goes q) e no_step z t go other = absurd t
      by (ends d) e (ends y) z t go other = record
          { end = d; comes = ap (λ x. went x (run n s)) e; alike = subst (EndsAlike s.functions u d) (same_Some y done (sym (ap (λ x. went x (run n s)) z) ∙ r)) t }
      by (ends d) e (goes h) z t go other = absurd t
      by (ends d) e no_step z t go other = absurd t

  pub run-follows : (n : ℕ) (p f : Point) (done : Activated) → top < 256 → Alike s u name top w p f → ActivationGoesOn n s p → run n s f ≡ Some done → Comes n p done
  run-follows n p f done l a g r = run-within n n p f done (omega arith) l a g r

  -- ---- the beginning

  module _ (t : UnitTidy s.functions u) (n : nest_deeper top s.functions (callees u) ≡ false) where
    top-place : InPlace s u name top w top (top_copy u)
    top-place = record { tidy = t; stands = record { at = λ z x h e. e }; nests = n; fits = record { own = λ m e. refl; low = λ m. inl refl } }

    top-holds : (e f : Env) → FlatHoldsMore e f → Holds u (top_copy u) e f
    top-holds e f h = record { plain = λ m g q. (h m g q).0; same = λ m g q. (h m g q).1; cells = λ m d q. refl; parts = λ m r q. refl }

    zero_first : (m : ℕ) → 0 + m ≡ m
    zero_first m = omega arith

    begin-alike : (c g : Control) → g.unit ≡ flat s u name top w → Runs s u name top w top (top_copy u) c g.block g.rest → Holds u (top_copy u) c.held g.held
        → Alike s u name top w (start_point c) (start_point g)
    begin-alike c g x r h = record {
      copy = top_copy u;
      left = top;
      place = top-place;
      runs = r;
      unit = x;
      holds = h;
      callers = refl;
      none = refl;
      count = zero_first top;
      wish = refl;
      outcomes = refl;
    }

    -- both begin, alike
    record Begun (c : Control) (y : Option Control) : Type 0 where
      pub control : Control
      pub begins : y ≡ Some control
      pub alike : Alike s u name top w (start_point c) (start_point control)

    new-begun : (e f : Env) (c : Control) → FlatHoldsMore e f → entry u e ≡ Some c → Begun c (entry (flat s u name top w) f)
    new-begun e f c h q = by u.blocks refl q
      where
        by : (bs : List BlockText) → u.blocks ≡ bs → at_first u e bs ≡ Some c
            → Begun c (at_first (flat s u name top w) f (map as_block (flat_map (flat_block (flat_copy top s.functions) s.functions (top_copy u)) u.blocks)))
        by [] z r = absurd (none-some c r)
        by (b ∷ more) z r =
            let tidy : BlockTidy s.functions u b = (subst (Each (BlockTidy s.functions u)) z t.blocks).0 in
            let found : block_of (label_or b.label) u.blocks ≡ Some b = ap (block_of (label_or b.label)) z ∙ first-named b more record { some = tidy.labelled; plain = tidy.plain } in
            let k : Control = record { unit = u; block = label_or b.label; rest = b.lines; held = e } in
            let g : Control = record {
              unit = flat s u name top w;
              block = first_piece (top_copy u) (label_or b.label);
              rest = (pieces_from (flat_copy top s.functions) s.functions (top_copy u) (label_or b.label) 0 b.lines).rest;
              held = f;
            } in
            subst (λ x. Begun x (at_first (flat s u name top w) f (map as_block (flat_map (flat_block (flat_copy top s.functions) s.functions (top_copy u)) u.blocks)))) (same_Some k c r)
            record {
              control = g;
              begins = ap (λ bs. at_first (flat s u name top w) f (map as_block (flat_map (flat_block (flat_copy top s.functions) s.functions (top_copy u)) bs))) z;
              alike = begin-alike k g refl (first-runs s u name top w top (top_copy u) (label_or b.label) b e found) (top-holds e f h);
            }

    waits-begun : (e f : Env) (c : Control) (block to : List ℕ) → FlatHoldsMore e f → IsPlain block → entered u e block to ≡ Some c
        → Begun c (entered (flat s u name top w) f (last_piece_of s.functions (top_copy u) block) to)
    waits-begun e f c block to h p q =
        let x = enters s u name top w top (top_copy u) e f block to c top-place (top-holds e f h) p q in
        record { control = x.control; begins = x.enters; alike = begin-alike c x.control x.unit x.runs x.gives.holds }

    stand-begun : (v : Stand) (e f : Env) (c : Control) → FlatHoldsMore e f → StandIsPlain v → control_from u e v ≡ Some c → Begun c (control_from (flat s u name top w) f (flat_stand s.functions u v))
    stand-begun is_new e f c h p q = new-begun e f c h q
    stand-begun (waits block to on wake) e f c h p q = waits-begun e f c block to h p q
    stand-begun halted e f c h p q = absurd (none-some c q)

    begun : (process text : ProcessState) (c : Control) → StandsAlike s.functions u process text → control_at u process ≡ Some c → Begun c (control_at (flat s u name top w) text)
    begun process text c a q = subst (λ v. Begun c (control_from (flat s u name top w) text.held v)) (sym a.stand) (stand-begun process.stand process.held text.held c a.held a.plain q)

    pub activates : (process text : ProcessState) (bound limit : ℕ) (done : Activated) → top < 256 → StandsAlike s.functions u process text → bound ≤ limit → Proceeds limit s u process
        → activate bound s (flat s u name top w) text ≡ Some done
        → (d : Activated) × (activate limit s u process ≡ Some d) × EndsAlike s.functions u d done
    unfolding activate
    activates process text bound limit done l a m p r =
        let b = begun process text p.control a p.begins in
        let x = run-follows bound (start_point p.control) (start_point b.control) done l b.alike (goes-fewer bound limit s (start_point p.control) m p.goes_on)
        (sym (ap (option_and_then (λ c. run bound s (start_point c))) b.begins) ∙ r) in
        (x.end, ap (option_and_then (λ c. run limit s (start_point c))) p.begins ∙ run-longer bound limit s (start_point p.control) x.end m x.comes, x.alike)

-- what a flat text is
pub record IsFlat (deep : Bool) (x t : FlatText) : Type 0 where
  pub shallow : deep ≡ false
  pub same : x ≡ t

flattened-is : (r : Option UnitName) (deep large : Bool) (x t : FlatText) → flattened_by r deep large x ≡ flattened t → IsFlat deep x t
flattened-is (Some f) deep large x t e = absurd cc
flattened-is None true large x t e = absurd cc
flattened-is None false true x t e = absurd cc
flattened-is None false false x t e = record { shallow = refl; same = cc }

pub flat-is : (fs : List UnitText) (u : UnitText) (t : FlatText) → flat_in fs u ≡ flattened t → IsFlat (nest_deeper max_nested fs (callees u)) (text_of fs u) t
unfolding flat_in
flat-is fs u t e = flattened-is (recursion_from (suc (length fs)) fs [] (callees u)) (nest_deeper max_nested fs (callees u)) (nat_lt max_flat (inst_count (text_of fs u).blocks)) (text_of fs u) t e

below_max : 64 < 256
below_max = omega arith

pub activates_alike : ActivatesAlike
activates_alike s u name t process text bound limit done e tidy w a m p r =
    let x = flat-is s.functions u t e in
    activates s u name 64 w tidy x.shallow process text bound limit done below_max a m p (ap (λ y. activate bound s (flat_unit name y) text) x.same ∙ r)

-- what is held at the beginning is held under names of bytes
plain-args : (args : List ArgText) (parts : List Range) (before : Env) (n : List ℕ) (h : Held) → ArgsOnce args → with_args before args (map part_held parts) n ≡ Some h
    → IsPlain n ⊎ (before n ≡ Some h)
plain-args [] parts before n h t e = inr e
plain-args (a ∷ args) [] before n h t e = inr e
plain-args (a ∷ args) (r ∷ parts) before n h t e = by (plain-args args parts (with_held before a.name (part_held r)) n h t.2 e) (names a.name n)
  where
    by : IsPlain n ⊎ (with_held before a.name (part_held r) n ≡ Some h) → Names a.name n → IsPlain n ⊎ (before n ≡ Some h)
    by (inl p) m = inl p
    by (inr q) (one z s) = inl (subst IsPlain z t.0)
    by (inr q) (two z s) = inr (sym (ap (λ b. if b then Some (part_held r) else before n) s) ∙ q)

pub begins_alike : BeginsAlike
begins_alike fs u parts t = record { stand = refl; plain = tt; held = λ n h e. (plain n h e, e) }
  where
    plain : (n : List ℕ) (h : Held) → with_args nothing_held u.args (map part_held parts) n ≡ Some h → IsPlain n
    plain n h e = elim (plain-args u.args parts nothing_held n h t.args e) [ inl p ↦ p | inr q ↦ absurd (none-some h q) ]
