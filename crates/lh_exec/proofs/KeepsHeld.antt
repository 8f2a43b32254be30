-- After each instruction of an activation what is there is held, and nothing but a call stops it.
use Rattle.std.proofs.Common.{◌≡◌, ◌⊎◌, inl, inr, ℕ, nat_lt, List, [], ◌∷◌, length, Bool, true, false, not, if◌then◌else◌, Option, Some, None, IsSome, refl, ap, sym, ◌∙◌, subst}
use Rattle.std.specs.Option.{option_and_then, option_map}
use Rattle.std.proofs.lemmas.Bool.{false≢true}
use Rattle.std.proofs.lemmas.Option.{same_Some, none-some}
use Rattle.lh_time.specs.declared.Instant.{Instant}
use Rattle.lh_types.specs.Types.{TypeTree, void_type}
use Rattle.lh_types.specs.Values.{Datum}
use Rattle.lh_types.specs.Wish.{Wish}
use Rattle.lh_types.specs.declared.part.Range.{Range}
use Rattle.lh_unit_names.specs.declared.name.UnitName.{UnitName}
use Rattle.lh_unit.specs.Contents.{OperandText, InstText, const_text, pure_text, var_text, ld_text, st_text, sig_text, prb_text, drv_text, reg_text, child_text, call_text, phi_text, br_text, branch_text, wait_text, halt_text, ret_text, LineText, UnitText, ItemText, is_result_name, defines_value}
use Rattle.lh_unit.specs.Named.{function_named, is_function}
use Rattle.lh_unit_names.specs.UnitNames.{is_assert}
use Rattle.lh_unit.specs.Held.{Held, datum_held, cell_held, Env, with_held, with_result, datum_at, cell_at, data_at, parts_at, test_at}
use Rattle.lh_unit.specs.Effects.{operated, probed, driven}
use Rattle.lh_unit.specs.Places.{is_terminator}
use Rattle.lh_unit.specs.SpellsInst.{gives_value, is_void}
use Rattle.lh_unit.specs.Typing.{value_type}
use Rattle.lh_unit.specs.Activation.{Scene, Stand, waits, halted, Control, Caller, Point, goes, no_step, entered, gives, jumps, wishes, tells, stores, opens, asserted, called, given_back, goes_back, returns, chosen, ends_at, wake_at, waiting, executes, steps_by, step, functions, max_calls}
use Rattle.lh_verify_laws.specs.Calls.{FunctionIsRight, AssertIsRight}
use Rattle.lh_verify_laws.specs.Operands.{ReturnIs}
use Rattle.lh_verify_laws.specs.Defined.{IsThere}
use Rattle.lh_verify_laws.proofs.There.{first-name, second-name}
use Rattle.lh_eval_laws.proofs.OperandsFound.{some-of}
use Rattle.lh_eval_laws.proofs.FindingStatic.{result-is}
use Rattle.lh_eval_laws.proofs.FindingPass.{held-stays, result-stays, named-held}
use Rattle.lh_exec.specs.States.{WaitsIn}
use Rattle.lh_exec.specs.Sound.{FunctionsRight, PointFits, CallersFit, GivesResult, StandHolds}
use Rattle.lh_exec.proofs.Placed.{FunctionsSteady}
use Rattle.lh_exec.proofs.Paths.{phis-more, ControlHolds}
use Rattle.lh_exec.proofs.Steady.{CallerHolds, CallersHold, PointHolds, NextHolds, here-phis, here-given, here-right, here-split, advance, advances, no-result, leads, calling}
use Rattle.lh_exec.proofs.Finds.{calls, data-found}

module _ (items : List ItemText) (now : List Bool) (t : Instant) (fs : FunctionsRight items) (ss : FunctionsSteady items) (u : UnitText) where
  abbrev scene : Scene
  scene = record { functions = functions items; now = now; at = t }

  abbrev line : Option (List ℕ) → InstText → LineText
  line r i = record { result = r; inst = i }

  module _ (p : Point) (f : PointFits items (length now) u p) (k : PointHolds p) where
    abbrev here : Env
    here = p.control.held

    abbrev At : InstText → Type 0
    At i = (r : Option (List ℕ)) × (rest : List LineText) × (p.control.rest ≡ line r i ∷ rest)

    abbrev past : List LineText → Point
    past rest = record p { control = record p.control { rest = rest } }

    gives-hold : (i : InstText) (x : At i) → is_terminator i ≡ false → (h : Option Held) → NextHolds p.control.unit (gives (past x.1) x.0 h)
    gives-hold i x e None = tt
    gives-hold i x e (Some h) = advances items now t fs ss u p f k (line x.0 i) x.1 x.2 e (with_result here x.0 h) (λ n s. result-stays here x.0 n h s) (λ n q. named-held here x.0 n h q)

    -- past an instruction that gives nothing
    plain : (i : InstText) (x : At i) → is_terminator i ≡ false → gives_value i ≡ false → ControlHolds (record p.control { rest = x.1 })
    plain i x e g = advance items now t fs ss u p f k (line x.0 i) x.1 x.2 e here (λ n s. s) (no-result items now t fs ss u p f k (line x.0 i) x.1 x.2 g)

    wishes-hold : (i : InstText) (x : At i) → is_terminator i ≡ false → gives_value i ≡ false → (o : Option Wish) → NextHolds p.control.unit (wishes (past x.1) o)
    wishes-hold i x e g None = tt
    wishes-hold i x e g (Some o) = record { control = plain i x e g; callers = k.callers }

    tells-hold : (i : InstText) (x : At i) → is_terminator i ≡ false → gives_value i ≡ false → (o : Option Bool) → NextHolds p.control.unit (tells (past x.1) o)
    tells-hold i x e g None = tt
    tells-hold i x e g (Some o) = record { control = plain i x e g; callers = k.callers }

    stores-hold : (to : OperandText) (value : List ℕ) (x : At (st_text to value)) (n : List ℕ) (a b : Option Datum) → NextHolds p.control.unit (stores (past x.1) n a b)
    stores-hold to value x n None b = tt
    stores-hold to value x n (Some a) None = tt
    stores-hold to value x n (Some a) (Some b) =
        let l = line x.0 (st_text to value) in
        advances items now t fs ss u p f k l x.1 x.2 refl (with_held here n (cell_held b)) (λ m s. held-stays here n m (cell_held b) s)
        (λ m q. held-stays here n m (cell_held b) (no-result items now t fs ss u p f k l x.1 x.2 refl m q))

    jumps-hold : (rest : List LineText) (o : Option Control) (c : Control) → o ≡ Some c → c.unit ≡ p.control.unit → ControlHolds c → NextHolds p.control.unit (jumps (past rest) o)
    jumps-hold rest o c e v h =
        subst (λ (y : Option Control). NextHolds p.control.unit (jumps (past rest) y)) (sym e) (record { control = h; callers = subst (λ (y : UnitText). CallersHold y p.callers) (sym v) k.callers })

    branch-holds : (cond first second : List ℕ) (x : At (branch_text cond first second)) (o : Option Bool)
        → NextHolds p.control.unit (jumps (past x.1) (option_and_then (entered p.control.unit here p.control.block) (chosen o first second)))
    branch-holds cond first second x None = tt
    branch-holds cond first second x (Some false) =
        let l = line x.0 (branch_text cond first second) in
        let z = leads items now t fs ss u p f k l x.1 x.2 refl first (here-right items now t fs ss u p f k l x.1 x.2).labels.0 (first-name first (second ∷ [])) in
        jumps-hold x.1 (entered p.control.unit here p.control.block first) z.0 z.1 z.2 z.3
    branch-holds cond first second x (Some true) =
        let l = line x.0 (branch_text cond first second) in
        let z = leads items now t fs ss u p f k l x.1 x.2 refl second (here-right items now t fs ss u p f k l x.1 x.2).labels.1.0 (second-name first second) in
        jumps-hold x.1 (entered p.control.unit here p.control.block second) z.0 z.1 z.2 z.3

    opens-hold : (i : InstText) (x : At i) → is_terminator i ≡ false → ((n : List ℕ) → x.0 ≡ Some n → value_type p.control.unit n ≡ Some void_type → ⊥) → (o : Option Control) (c : Control)
        → o ≡ Some c → is_function c.unit.kind ≡ true → ControlHolds c
        → NextHolds p.control.unit (opens (past x.1) x.0 o)
    opens-hold i x e v o c q g h = subst (λ (y : Option Control). NextHolds p.control.unit (opens (past x.1) x.0 y)) (sym q) (by (nat_lt (length p.callers) max_calls))
      where
        by : (b : Bool) → NextHolds p.control.unit (if b then goes (record (past x.1) { control = c; callers = record { control = record p.control { rest = x.1 }; result = x.0 } ∷ p.callers })
            else no_step)
        by false = tt
        by true = record { control = h; callers = (g, calling items now t fs ss u p f k (line x.0 i) x.1 x.2 e v, k.callers) }

    -- the last open call goes on
    caller-goes : (c : Caller) (more : List Caller) → CallerHolds c → CallersHold c.control.unit more → (rest : List LineText) (e : Env) → ((n : List ℕ) → IsSome (c.control.held n) → IsSome (e n))
        → ((n : List ℕ) → is_result_name n c.result ≡ true → IsSome (e n))
        → PointHolds (record (past rest) { control = record c.control { held = e }; callers = more })
    caller-goes c more h m rest e stays result = record {
      control = record {
        steady = h.steady;
        text = h.text;
        block = h.block;
        before = h.before;
        split = h.split;
        there = λ n d g. at n d g (is_result_name n c.result) refl;
        phis = phis-more c.control.held e c.control.rest stays h.phis;
        more = h.more;
      };
      callers = m;
    }
      where
        at : (n : List ℕ) → defines_value n c.control.unit ≡ true → IsThere c.control.unit h.text h.before n → (b : Bool) → is_result_name n c.result ≡ b → IsSome (e n)
        at n d g true q = result n q
        at n d g false q = stays n (h.there n d g q)

    void-result : (c : Caller) → CallerHolds c → GivesResult p.control.unit c → ReturnIs p.control.unit p.control.unit.result None → IsSome p.control.unit.result → (n : List ℕ)
        → is_result_name n c.result ≡ true → IsSome (c.control.held n)
    void-result c h g row some n q =
        let r = some-of p.control.unit.result some in
        let v : r.0 ≡ void_type = subst (λ (o : Option TypeTree). ReturnIs p.control.unit o None) r.1 row in
        absurd (h.valued n (result-is c.result n q) (g n r.0 (result-is c.result n q) r.1 ∙ ap Some v))

    back-holds : (o : Option OperandText) (rest : List LineText) (c : Caller) (more : List Caller) → CallerHolds c → CallersHold c.control.unit more → GivesResult p.control.unit c
        → IsSome p.control.unit.result → ReturnIs p.control.unit p.control.unit.result o
        → NextHolds p.control.unit (goes_back (past rest) c more (given_back here o c))
    back-holds None rest c more h m g some row = caller-goes c more h m rest c.control.held (λ n s. s) (void-result c h g row some)
    back-holds (Some a) rest c more h m g some row = by (datum_at here a.value)
      where
        by : (d : Option Datum) → NextHolds p.control.unit (goes_back (past rest) c more (option_map (λ x. with_result c.control.held c.result (datum_held x)) d))
        by None = tt
        by (Some d) = caller-goes c more h m rest (with_result c.control.held c.result (datum_held d)) (λ n s. result-stays c.control.held c.result n (datum_held d) s)
            (λ n q. named-held c.control.held c.result n (datum_held d) q)

    returns-hold : (o : Option OperandText) (rest : List LineText) → ReturnIs p.control.unit p.control.unit.result o → NextHolds p.control.unit (returns (past rest) o p.callers)
    returns-hold o rest row = by p.callers refl
      where
        by : (cs : List Caller) → p.callers ≡ cs → NextHolds p.control.unit (returns (past rest) o cs)
        by [] q = tt
        by (c ∷ more) q =
            let h = subst (CallersHold p.control.unit) q k.callers in
            let g = subst (CallersFit items (length now) p.control.unit) q f.callers in
            back-holds o rest c more h.1 h.2 g.1.1 g.1.0 row

    ends-hold : (rest : List LineText) (cs : List Caller) (o : Option Stand) → ((x : Stand) → o ≡ Some x → StandHolds p.control.unit here x) → NextHolds p.control.unit (ends_at (past rest) cs o)
    ends-hold rest [] None g = tt
    ends-hold rest [] (Some x) g = g x refl
    ends-hold rest (c ∷ cs) None g = tt
    ends-hold rest (c ∷ cs) (Some x) g = tt

    halts : (x : Stand) → Some halted ≡ Some x → StandHolds p.control.unit here x
    halts x e = subst (StandHolds p.control.unit here) (same_Some halted x e) tt

    waits-hold : (to : List ℕ) (after : Option (List ℕ)) (signals : List (List ℕ)) (x : At (wait_text to after signals)) (on : Option (List Range)) (wake : Option (Option Instant)) (y : Stand)
        → waiting p.control.block to on wake ≡ Some y → StandHolds p.control.unit here y
    waits-hold to after signals x None wake y e = absurd (none-some y e)
    waits-hold to after signals x (Some on) None y e = absurd (none-some y e)
    waits-hold to after signals x (Some on) (Some wake) y e =
        let l = line x.0 (wait_text to after signals) in
        let at : WaitsIn p.control.unit p.control.block to = record {
          text = k.control.text;
          stands = k.control.block;
          before = k.control.before;
          after = x.1;
          name = x.0;
          delay = after;
          signals = signals;
          split = here-split items now t fs ss u p f k l x.1 x.2;
        } in
        subst (StandHolds p.control.unit here) (same_Some (waits p.control.block to on wake) y e) (at, k.control.there)

    call-holds : (g : UnitName) (ty : TypeTree) (os : List OperandText) (x : At (call_text g ty os))
        → ((is_assert g ≡ true) × AssertIsRight p.control.unit ty os) ⊎ ((is_assert g ≡ false) × FunctionIsRight items p.control.unit g ty os)
        → NextHolds p.control.unit (executes scene (call_text g ty os) x.0 (past x.1))
    call-holds g ty os x (inl a) =
        subst (λ (b : Bool). NextHolds p.control.unit (if b then tells (past x.1) (asserted here os) else opens (past x.1) x.0 (called (function_named g (functions items)) (data_at here os))))
        (sym a.0)
        (tells-hold (call_text g ty os) x refl (ap (λ y. not (is_void y)) a.1.gives) (asserted here os))
    call-holds g ty os x (inr a) =
        let l = line x.0 (call_text g ty os) in
        let ds = data-found items now t fs ss u p f k g ty os x in
        let z = calls items now t fs ss u p.control.unit here g ty os ds.0 ds.1 ds.2 a.1 in
        subst (λ (b : Bool). NextHolds p.control.unit (if b then tells (past x.1) (asserted here os) else opens (past x.1) x.0 (called (function_named g (functions items)) (data_at here os))))
        (sym a.0)
        (opens-hold (call_text g ty os) x refl valued (called (function_named g (functions items)) (data_at here os)) z.0 z.1 (ap (λ (y : UnitText). is_function y.kind) z.2 ∙ a.1.function) z.3)
      where
        valued : (n : List ℕ) → x.0 ≡ Some n → value_type p.control.unit n ≡ Some void_type → ⊥
        valued n q v =
            let l = line x.0 (call_text g ty os) in
            let same : ty ≡ void_type = same_Some ty void_type (sym ((here-right items now t fs ss u p f k l x.1 x.2).sound.gives n q) ∙ v) in
            false≢true (sym (ap (λ y. not (is_void y)) same) ∙ here-given items now t fs ss u p f k l x.1 x.2 n q)

    exec-holds : (i : InstText) (x : At i) → NextHolds p.control.unit (executes scene i x.0 (past x.1))
    exec-holds (const_text d) x = gives-hold (const_text d) x refl (Some (datum_held d))
    exec-holds (pure_text o os) x = gives-hold (pure_text o os) x refl (operated p.control.unit here o os)
    exec-holds (var_text a) x = gives-hold (var_text a) x refl (option_map cell_held (datum_at here a.value))
    exec-holds (ld_text a) x = gives-hold (ld_text a) x refl (option_map datum_held (cell_at here a.value))
    exec-holds (st_text to value) x = stores-hold to value x to.value (cell_at here to.value) (datum_at here value)
    exec-holds (prb_text a) x = gives-hold (prb_text a) x refl (probed now here a)
    exec-holds (drv_text to value after cond) x = wishes-hold (drv_text to value after cond) x refl refl (driven t here p.wish to value after cond)
    exec-holds (call_text g ty os) x = call-holds g ty os x (here-right items now t fs ss u p f k (line x.0 (call_text g ty os)) x.1 x.2).named
    exec-holds (phi_text ty es) x =
        let l = line x.0 (phi_text ty es) in
        record { control = advance items now t fs ss u p f k l x.1 x.2 refl here (λ n s. s) (here-phis items now t fs ss u p f k l x.1 x.2).0; callers = k.callers }
    exec-holds (br_text to) x =
        let l = line x.0 (br_text to) in
        let z = leads items now t fs ss u p f k l x.1 x.2 refl to (here-right items now t fs ss u p f k l x.1 x.2).labels.0 (first-name to []) in
        jumps-hold x.1 (entered p.control.unit here p.control.block to) z.0 z.1 z.2 z.3
    exec-holds (branch_text cond first second) x = branch-holds cond first second x (test_at here cond)
    exec-holds (wait_text to after on) x = ends-hold x.1 p.callers (waiting p.control.block to (parts_at here on) (wake_at t here after))
        (waits-hold to after on x (parts_at here on) (wake_at t here after))
    exec-holds halt_text x = ends-hold x.1 p.callers (Some halted) halts
    exec-holds (ret_text o) x = returns-hold o x.1 (here-right items now t fs ss u p f k (line x.0 (ret_text o)) x.1 x.2).sound.row
    exec-holds (sig_text a) x = tt
    exec-holds (reg_text to gs) x = tt
    exec-holds (child_text v is os) x = tt

    -- what is there before the next instruction is held after it
    pub step-holds : NextHolds p.control.unit (step scene p)
    step-holds = by p.control.rest refl
      where
        by : (ls : List LineText) → p.control.rest ≡ ls → NextHolds p.control.unit (steps_by scene p ls)
        by [] e = tt
        by (l ∷ rest) e = exec-holds l.inst (l.result, rest, e)
