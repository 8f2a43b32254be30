-- Where an activation ends, the process waits or has halted, and what it holds fits.
use Rattle.std.proofs.Common.{◌≡◌, ℕ, zero, suc, nat_lt, List, [], ◌∷◌, length, Bool, true, false, if◌then◌else◌, Option, Some, None, ap, subst}
use Rattle.std.specs.Option.{option_and_then, option_map}
use Rattle.std.proofs.lemmas.Option.{same_Some, none-some}
use Rattle.lh_time.specs.declared.Instant.{Instant}
use Rattle.lh_types.specs.Values.{Datum}
use Rattle.lh_types.specs.Wish.{Wish}
use Rattle.lh_types.specs.declared.part.Range.{Range}
use Rattle.lh_unit.specs.Contents.{OperandText, InstText, const_text, pure_text, var_text, ld_text, st_text, sig_text, prb_text, drv_text, reg_text, child_text, call_text, phi_text, br_text, branch_text, wait_text, halt_text, ret_text, LineText, UnitText, ItemText}
use Rattle.lh_unit.specs.Named.{function_named}
use Rattle.lh_unit_names.specs.UnitNames.{is_assert}
use Rattle.lh_unit.specs.Held.{Held, datum_held, cell_held, Env, data_at, datum_at, cell_at, parts_at, test_at}
use Rattle.lh_unit.specs.Effects.{operated, probed, driven}
use Rattle.lh_unit.specs.Activation.{Scene, Stand, is_new, waits, halted, Control, Caller, Point, Activated, Next, goes, ends, no_step, entered, max_calls, gives, jumps, wishes, tells, stores, opens, asserted, called, given_back, goes_back, returns, chosen, ends_at, wake_at, waiting, executes, steps_by, step, went, run, functions}
use Rattle.lh_exec.specs.Sound.{FunctionsRight, PointFits, DoneFits}
use Rattle.lh_exec.proofs.KeepsFit.{NextFits, step-fits}

-- ---- where it stands

-- what an instruction leads to is not the end of an activation with a process that stands as a new one
abbrev NotNew : Next → Type 0
NotNew (goes p) = Unit {0}
NotNew (ends d) = d.state.stand ≡ is_new → ⊥
NotNew no_step = Unit {0}

waiting-old : (block to : List ℕ) (on : Option (List Range)) (wake : Option (Option Instant)) → waiting block to on wake ≡ Some is_new → ⊥
waiting-old block to None wake e = none-some is_new e
waiting-old block to (Some on) None e = none-some is_new e
waiting-old block to (Some on) (Some wake) e = let x : waits block to on wake ≡ is_new = same_Some (waits block to on wake) is_new e in absurd cc

module _ (p : Point) where
  gives-old : (r : Option (List ℕ)) (o : Option Held) → NotNew (gives p r o)
  gives-old r None = tt
  gives-old r (Some x) = tt

  jumps-old : (o : Option Control) → NotNew (jumps p o)
  jumps-old None = tt
  jumps-old (Some x) = tt

  wishes-old : (o : Option Wish) → NotNew (wishes p o)
  wishes-old None = tt
  wishes-old (Some x) = tt

  tells-old : (o : Option Bool) → NotNew (tells p o)
  tells-old None = tt
  tells-old (Some x) = tt

  stores-old : (n : List ℕ) (a b : Option Datum) → NotNew (stores p n a b)
  stores-old n None b = tt
  stores-old n (Some a) None = tt
  stores-old n (Some a) (Some b) = tt

  opens-old : (r : Option (List ℕ)) (o : Option Control) → NotNew (opens p r o)
  opens-old r None = tt
  opens-old r (Some c) = by (nat_lt (length p.callers) max_calls)
    where
      by : (b : Bool) → NotNew (if b then goes (record p { control = c; callers = record { control = p.control; result = r } ∷ p.callers }) else no_step)
      by true = tt
      by false = tt

  ends-old : (cs : List Caller) (o : Option Stand) → (o ≡ Some is_new → ⊥) → NotNew (ends_at p cs o)
  ends-old [] None h = tt
  ends-old [] (Some x) h = λ e. h (ap Some e)
  ends-old (c ∷ cs) o h = tt

  returns-old : (o : Option OperandText) (cs : List Caller) → NotNew (returns p o cs)
  returns-old o [] = tt
  returns-old o (c ∷ cs) = by (given_back p.control.held o c)
    where
      by : (x : Option Env) → NotNew (goes_back p c cs x)
      by None = tt
      by (Some x) = tt

  call-old : (b : Bool) (passed : Option Bool) (r : Option (List ℕ)) (o : Option Control) → NotNew (if b then tells p passed else opens p r o)
  call-old true passed r o = tells-old passed
  call-old false passed r o = opens-old r o

  executes-old : (s : Scene) (i : InstText) (r : Option (List ℕ)) → NotNew (executes s i r p)
  executes-old s (const_text d) r = tt
  executes-old s (pure_text o os) r = gives-old r (operated p.control.unit p.control.held o os)
  executes-old s (var_text a) r = gives-old r (option_map cell_held (datum_at p.control.held a.value))
  executes-old s (ld_text a) r = gives-old r (option_map datum_held (cell_at p.control.held a.value))
  executes-old s (st_text to value) r = stores-old to.value (cell_at p.control.held to.value) (datum_at p.control.held value)
  executes-old s (prb_text a) r = gives-old r (probed s.now p.control.held a)
  executes-old s (drv_text to value after cond) r = wishes-old (driven s.at p.control.held p.wish to value after cond)
  executes-old s (call_text f ty os) r = call-old (is_assert f) (asserted p.control.held os) r (called (function_named f s.functions) (data_at p.control.held os))
  executes-old s (phi_text ty es) r = tt
  executes-old s (br_text to) r = jumps-old (entered p.control.unit p.control.held p.control.block to)
  executes-old s (branch_text cond first second) r = jumps-old (option_and_then (entered p.control.unit p.control.held p.control.block) (chosen (test_at p.control.held cond) first second))
  executes-old s (wait_text to after on) r =
      ends-old p.callers (waiting p.control.block to (parts_at p.control.held on) (wake_at s.at p.control.held after))
      (waiting-old p.control.block to (parts_at p.control.held on) (wake_at s.at p.control.held after))
  executes-old s halt_text r = ends-old p.callers (Some halted) (λ e. let x : halted ≡ is_new = same_Some halted is_new e in absurd cc)
  executes-old s (ret_text o) r = returns-old o p.callers
  executes-old s (sig_text a) r = tt
  executes-old s (reg_text to gs) r = tt
  executes-old s (child_text v is os) r = tt

step-old : (s : Scene) (p : Point) (ls : List LineText) → NotNew (steps_by s p ls)
step-old s p [] = tt
step-old s p (l ∷ rest) = executes-old (record p { control = record p.control { rest = rest } }) s l.inst l.result

-- a process whose activation has ended is no longer new
pub run-old : (n : ℕ) (s : Scene) (p : Point) (d : Activated) → run n s p ≡ Some d → d.state.stand ≡ is_new → ⊥
run-old zero s p d e = absurd (none-some d e)
run-old (suc n) s p d e = by (step s p) (step-old s p p.control.rest) e (run-old n s)
  where
    by : (x : Next) → NotNew x → went x (run n s) ≡ Some d → ((q : Point) (c : Activated) → run n s q ≡ Some c → c.state.stand ≡ is_new → ⊥) → d.state.stand ≡ is_new → ⊥
    by (goes q) h c go = go q d c
    by (ends b) h c go = subst (λ (y : Activated). y.state.stand ≡ is_new → ⊥) (same_Some b d c) h
    by no_step h c go = absurd (none-some d c)

-- ---- what it holds

module _ (items : List ItemText) (now : List Bool) (t : Instant) (fs : FunctionsRight items) (u : UnitText) where
  abbrev scene : Scene
  scene = record { functions = functions items; now = now; at = t }

  pub run-fits : (n : ℕ) (p : Point) → PointFits items (length now) u p → (d : Activated) → run n scene p ≡ Some d → DoneFits (length now) t u d
  run-fits zero p f d e = absurd (none-some d e)
  run-fits (suc n) p f d e = by (step scene p) (step-fits items now t fs u p f) e (run-fits n)
    where
      by : (x : Next) → NextFits items (length now) t u p.control.unit x → went x (run n scene) ≡ Some d
          → ((q : Point) → PointFits items (length now) u q → (c : Activated) → run n scene q ≡ Some c → DoneFits (length now) t u c) → DoneFits (length now) t u d
      by (goes q) g c go = go q g d c
      by (ends b) g c go = subst (DoneFits (length now) t u) (same_Some b d c) g.0
      by no_step g c go = absurd (none-some d c)
