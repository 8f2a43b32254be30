-- Nothing goes wrong at any point that an activation reaches, and where it ends what is there is held.
use Rattle.std.proofs.Common.{◌≡◌, ◌⊎◌, inl, inr, ℕ, zero, suc, ◌≤◌, nat_lt, List, [], ◌∷◌, length, Bool, true, false, if◌then◌else◌, Option, Some, None, IsSome, refl, sym, subst, arith}
use Rattle.std.specs.Option.{option_and_then, option_map}
use Rattle.std.proofs.lemmas.Grind.{common_steps}
use Rattle.std.proofs.lemmas.Option.{same_Some, none-some}
use Rattle.lh_time.specs.declared.Instant.{Instant}
use Rattle.lh_types.specs.Types.{TypeTree}
use Rattle.lh_types.specs.Values.{Datum}
use Rattle.lh_types.specs.Wish.{Wish}
use Rattle.lh_unit_names.specs.declared.name.UnitName.{UnitName}
use Rattle.lh_unit.specs.Contents.{OperandText, InstText, const_text, pure_text, var_text, ld_text, st_text, sig_text, prb_text, drv_text, reg_text, child_text, call_text, phi_text, br_text, branch_text, wait_text, halt_text, ret_text, LineText, UnitText, ItemText}
use Rattle.lh_unit.specs.Named.{function_named}
use Rattle.lh_unit_names.specs.UnitNames.{is_assert}
use Rattle.lh_unit.specs.Held.{Held, datum_held, cell_held, Env, datum_at, cell_at, data_at, parts_at, test_at}
use Rattle.lh_unit.specs.Effects.{operated, probed, driven}
use Rattle.lh_unit.specs.Activation.{Scene, Stand, Control, Caller, Point, Activated, Next, goes, ends, no_step, entered, gives, jumps, wishes, tells, stores, opens, asserted, called, given_back, goes_back, returns, chosen, ends_at, wake_at, waiting, executes, steps_by, step, run, went, functions, max_calls}
use Rattle.lh_exec.specs.Sound.{FunctionsRight, PointFits, StandHolds}
use Rattle.lh_exec.specs.Steady.{FindsOperands, FindsFirst, CallsFirst, IsSteady, InstructionsLead}
use Rattle.lh_exec.proofs.KeepsFit.{NextFits, step-fits}
use Rattle.lh_exec.proofs.Placed.{FunctionsSteady, NotNil}
use Rattle.lh_exec.proofs.Steady.{PointHolds, NextHolds}
use Rattle.lh_exec.proofs.Finds.{finds}
use Rattle.lh_exec.proofs.KeepsHeld.{step-holds}

-- ---- nothing stops it but a call

-- it goes on, or a call comes next and as many as may be are open
abbrev GoesOrFull : (call : Type 0) → Next → Point → Type 0
GoesOrFull call (goes q) p = Unit {0}
GoesOrFull call (ends d) p = Unit {0}
GoesOrFull call no_step p = call × (max_calls ≤ length p.callers)

module _ (s : Scene) (p : Point) (rest : List LineText) (call : Type 0) where
  abbrev past : Point
  past = record p { control = record p.control { rest = rest } }

  gives-on : (r : Option (List ℕ)) (o : Option Held) → IsSome o → GoesOrFull call (gives past r o) p
  gives-on r None h = absurd cc
  gives-on r (Some x) h = tt

  jumps-on : (o : Option Control) → IsSome o → GoesOrFull call (jumps past o) p
  jumps-on None h = absurd cc
  jumps-on (Some x) h = tt

  wishes-on : (o : Option Wish) → IsSome o → GoesOrFull call (wishes past o) p
  wishes-on None h = absurd cc
  wishes-on (Some x) h = tt

  tells-on : (o : Option Bool) → IsSome o → GoesOrFull call (tells past o) p
  tells-on None h = absurd cc
  tells-on (Some x) h = tt

  stores-on : (n : List ℕ) (a b : Option Datum) → IsSome a → IsSome b → GoesOrFull call (stores past n a b) p
  stores-on n None b g h = absurd cc
  stores-on n (Some a) None g h = absurd cc
  stores-on n (Some a) (Some b) g h = tt

  opens-on : call → (r : Option (List ℕ)) (o : Option Control) → IsSome o → GoesOrFull call (opens past r o) p
  opens-on y r None h = absurd cc
  opens-on y r (Some c) h = by (nat_lt (length p.callers) max_calls) refl
    where
      by : (b : Bool) → nat_lt (length p.callers) max_calls ≡ b
          → GoesOrFull call (if b then goes (record past { control = c; callers = record { control = past.control; result = r } ∷ p.callers }) else no_step) p
      by true q = tt
      by false q = (y, grind (arith, common_steps))

  ends-on : (cs : List Caller) (o : Option Stand) → cs ≡ [] → IsSome o → GoesOrFull call (ends_at past cs o) p
  ends-on [] None e h = absurd cc
  ends-on [] (Some x) e h = tt
  ends-on (c ∷ cs) o e h = absurd cc

  back-on : (o : Option OperandText) (c : Caller) (more cs : List Caller) → cs ≡ c ∷ more → IsSome (given_back p.control.held o c) → GoesOrFull call (returns past o cs) p
  back-on o c more cs e h = subst (λ (x : List Caller). GoesOrFull call (returns past o x) p) (sym e) (by (given_back p.control.held o c) h)
    where
      by : (x : Option Env) → IsSome x → GoesOrFull call (goes_back past c more x) p
      by None g = absurd cc
      by (Some x) g = tt

  mapped : {A B : Type 0} (f : A → B) (o : Option A) → IsSome o → IsSome (option_map f o)
  mapped f None h = absurd cc
  mapped f (Some x) h = refl

  call-on : (f : UnitName) → (is_assert f ≡ false → call) → (os : List OperandText) (r : Option (List ℕ))
      → ((is_assert f ≡ true) × IsSome (asserted p.control.held os)) ⊎ ((is_assert f ≡ false) × IsSome (called (function_named f s.functions) (data_at p.control.held os)))
      → GoesOrFull call (if is_assert f then tells past (asserted p.control.held os) else opens past r (called (function_named f s.functions) (data_at p.control.held os))) p
  call-on f y os r (inl h) =
      subst (λ (b : Bool). GoesOrFull call (if b then tells past (asserted p.control.held os) else opens past r (called (function_named f s.functions) (data_at p.control.held os))) p) (sym h.0)
      (tells-on (asserted p.control.held os) h.1)
  call-on f y os r (inr h) =
      subst (λ (b : Bool). GoesOrFull call (if b then tells past (asserted p.control.held os) else opens past r (called (function_named f s.functions) (data_at p.control.held os))) p) (sym h.0)
      (opens-on (y h.0) r (called (function_named f s.functions) (data_at p.control.held os)) h.1)

  exec-on : (i : InstText) (r : Option (List ℕ)) → ((f : UnitName) (ty : TypeTree) (args : List OperandText) → i ≡ call_text f ty args → is_assert f ≡ false → call) → FindsOperands s p i
      → GoesOrFull call (executes s i r past) p
  exec-on (const_text d) r y h = tt
  exec-on (pure_text o os) r y h = gives-on r (operated p.control.unit p.control.held o os) h
  exec-on (var_text a) r y h = gives-on r (option_map cell_held (datum_at p.control.held a.value)) (mapped cell_held (datum_at p.control.held a.value) h)
  exec-on (ld_text a) r y h = gives-on r (option_map datum_held (cell_at p.control.held a.value)) (mapped datum_held (cell_at p.control.held a.value) h)
  exec-on (st_text to value) r y h = stores-on to.value (cell_at p.control.held to.value) (datum_at p.control.held value) h.0 h.1
  exec-on (prb_text a) r y h = gives-on r (probed s.now p.control.held a) h
  exec-on (drv_text to value after cond) r y h = wishes-on (driven s.at p.control.held p.wish to value after cond) h
  exec-on (call_text f ty os) r y h = call-on f (λ q. y f ty os refl q) os r h
  exec-on (phi_text ty es) r y h = tt
  exec-on (br_text to) r y h = jumps-on (entered p.control.unit p.control.held p.control.block to) h
  exec-on (branch_text cond first second) r y h = jumps-on (option_and_then (entered p.control.unit p.control.held p.control.block) (chosen (test_at p.control.held cond) first second)) h
  exec-on (wait_text to after on) r y h = ends-on p.callers (waiting p.control.block to (parts_at p.control.held on) (wake_at s.at p.control.held after)) h.0 h.1
  exec-on halt_text r y h = ends-on p.callers (Some _) h refl
  exec-on (ret_text o) r y h = back-on o h.0 h.1 p.callers h.2 h.3
  exec-on (sig_text a) r y h = absurd h
  exec-on (reg_text to gs) r y h = absurd h
  exec-on (child_text v is os) r y h = absurd h

steps-on : (s : Scene) (p : Point) (ls : List LineText) → FindsFirst s p ls → GoesOrFull (CallsFirst ls) (steps_by s p ls) p
steps-on s p [] h = absurd h
steps-on s p (l ∷ rest) h = exec-on s p rest (CallsFirst (l ∷ rest)) l.inst l.result (λ f ty args q n. (f, ty, args, q, n)) h

module _ (items : List ItemText) (now : List Bool) (t : Instant) (fs : FunctionsRight items) (ss : FunctionsSteady items) (u : UnitText) where
  abbrev scene : Scene
  scene = record { functions = functions items; now = now; at = t }

  finds-first : (p : Point) (f : PointFits items (length now) u p) (k : PointHolds p) → FindsFirst scene p p.control.rest
  finds-first p f k = by p.control.rest refl
    where
      by : (ls : List LineText) → p.control.rest ≡ ls → FindsFirst scene p ls
      by [] e = subst NotNil e k.control.more
      by (l ∷ rest) e = finds items now t fs ss u p f k l.inst (l.result, rest, e)

  pub is-steady : (p : Point) (f : PointFits items (length now) u p) (k : PointHolds p) → IsSteady scene (length now) p
  is-steady p f k =
      let h = finds-first p f k in
      record { fits = f.control.fits; finds = h; stops = λ e. subst (λ (x : Next). GoesOrFull (CallsFirst p.control.rest) x p) e (steps-on scene p p.control.rest h) }

  next-point : (v : UnitText) (x : Next) (q : Point) → x ≡ goes q → NextFits items (length now) t u v x → NextHolds v x → PointFits items (length now) u q × PointHolds q
  next-point v x q e f k = (subst (NextFits items (length now) t u v) e f, subst (NextHolds v) e k)

  -- at each point that is reached
  pub reached : (points : List Point) (p q : Point) → PointFits items (length now) u p → PointHolds p → InstructionsLead scene p points q → IsSteady scene (length now) q
  reached [] p q f k r = subst (IsSteady scene (length now)) r (is-steady p f k)
  reached (x ∷ points) p q f k r =
      let n = next-point p.control.unit (step scene p) x r.0 (step-fits items now t fs u p f) (step-holds items now t fs ss u p f k) in
      reached points x q n.0 n.1 r.1

  -- and where it ends
  pub run-holds : (n : ℕ) (p : Point) → PointFits items (length now) u p → PointHolds p → (d : Activated) → run n scene p ≡ Some d → StandHolds u d.state.held d.state.stand
  run-holds zero p f k d e = absurd (none-some d e)
  run-holds (suc n) p f k d e = by (step scene p) (step-fits items now t fs u p f) (step-holds items now t fs ss u p f k) e (run-holds n)
    where
      by : (x : Next) → NextFits items (length now) t u p.control.unit x → NextHolds p.control.unit x → went x (run n scene) ≡ Some d
          → ((q : Point) → PointFits items (length now) u q → PointHolds q → (c : Activated) → run n scene q ≡ Some c → StandHolds u c.state.held c.state.stand)
          → StandHolds u d.state.held d.state.stand
      by (goes q) g h c go = go q g h d c
      by (ends b) g h c go = subst (λ (y : Activated). StandHolds u y.state.held y.state.stand) (same_Some b d c) (subst (λ (v : UnitText). StandHolds v b.state.held b.state.stand) g.1 h)
      by no_step g h c go = absurd (none-some d c)
