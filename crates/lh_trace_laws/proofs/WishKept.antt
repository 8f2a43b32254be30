-- What holds of every wish that an instance makes.
use Rattle.std.proofs.Common.{◌≡◌, ℕ, ◌+◌, zero, suc, List, [], ◌∷◌, length, Bool, true, false, not, ◌&&◌, nat_lt, if◌then◌else◌, Option, Some, None, IfSome, unwrap_or}
use Rattle.std.specs.Option.{option_and_then}
use Rattle.lh_time.specs.declared.Instant.{Instant}
use Rattle.lh_time.specs.declared.Delay.{Delay}
use Rattle.lh_time.specs.Order.{instant_lt}
use Rattle.lh_time.specs.Due.{due_of}
use Rattle.lh_types.specs.Values.{Datum}
use Rattle.lh_types.specs.Bits.{value_bits}
use Rattle.lh_types.specs.Wish.{Wish, no_wish, with_bit, with_bits, with_drive}
use Rattle.lh_types.specs.declared.part.Range.{Range}
use Rattle.lh_unit.specs.Contents.{OperandText, TriggerText, InstText, const_text, pure_text, var_text, ld_text, st_text, sig_text, prb_text, drv_text, reg_text, child_text, call_text, phi_text, br_text, branch_text, wait_text, halt_text, ret_text, LineText, UnitText}
use Rattle.lh_unit.specs.Named.{function_named}
use Rattle.lh_unit_names.specs.UnitNames.{is_assert}
use Rattle.lh_unit.specs.Held.{Held, Env, datum_at, data_at, delay_at, part_at}
use Rattle.lh_unit.specs.Effects.{condition_at, drive_due, drive_when, driven}
use Rattle.lh_unit.specs.Activation.{Scene, Stand, ProcessState, Control, Caller, Point, Activated, Next, goes, ends, no_step, max_calls, gives, jumps, wishes, tells, stores, opens, goes_back, returns, ends_at, executes, asserted, called, steps_by, step, control_at, start_point, went, run, activate}
use Rattle.lh_unit.specs.Hierarchy.{Instance, lines_of, parts_of}
use Rattle.lh_unit.specs.Pass.{Passed, fires, stored, delay_of, triggers_from, passes, pass_from, pass}
use Rattle.lh_unit.specs.World.{State, of_process, of_entity, Moment, Act, woken, process_act, runs, if_woken, act, Rules}
use Rattle.lh_trace_laws.proofs.Instants.{due_later}

-- a property of wishes that holds of none, and is kept by each bit that is due after t
pub record WishProperty (t : Instant) : Type 1 where
  pub holds : Wish → Type 0
  pub nothing : holds no_wish
  pub more : (w : Wish) (due : Instant) (bit : ℕ) (b : Bool) → instant_lt t due ≡ true → holds w → holds (with_bit w due bit b)

module _ (t : Instant) (q : WishProperty t) where
  abbrev scene : List UnitText → List Bool → Scene
  scene fs now = record { functions = fs; now = now; at = t }

  bits_keeps : (due : Instant) → instant_lt t due ≡ true → (bs : List Bool) (w : Wish) (lo : ℕ) → q.holds w → q.holds (with_bits w due lo bs)
  bits_keeps due h [] w lo a = a
  bits_keeps due h (b ∷ more) w lo a = bits_keeps due h more (with_bit w due lo b) (lo + 1) (q.more w due lo b h a)

  drive_keeps : (w : Wish) (o : Option Instant) (lo : ℕ) (bs : List Bool) → IfSome o (λ u. instant_lt t u ≡ true) → q.holds w → q.holds (with_drive w o lo bs)
  drive_keeps w None lo bs h a = a
  drive_keeps w (Some due) lo bs h a = bits_keeps due h bs w lo a

  drive_due_keeps : (w : Wish) (r : Option Range) (v : Option Datum) (d : Option Delay) → q.holds w → IfSome (drive_due t w r v d) q.holds
  drive_due_keeps w (Some r) (Some v) (Some d) a = drive_keeps w (due_of t d) r.lo (value_bits v) (due_later t d) a
  drive_due_keeps w (Some r) (Some v) None a = tt
  drive_due_keeps w (Some r) None d a = tt
  drive_due_keeps w None v d a = tt

  driven_keeps : (e : Env) (w : Wish) (to : OperandText) (value after : List ℕ) (c : Option (List ℕ)) → q.holds w → IfSome (driven t e w to value after c) q.holds
  driven_keeps e w to value after c a = at (condition_at e c)
    where
      at : (o : Option Bool) → IfSome (drive_when o w (drive_due t w (part_at e to.value) (datum_at e value) (delay_at e after))) q.holds
      at (Some true) = drive_due_keeps w (part_at e to.value) (datum_at e value) (delay_at e after) a
      at (Some false) = a
      at None = tt

  -- what a step leads to
  abbrev NextHolds : Next → Type 0
  NextHolds (goes p) = q.holds p.wish
  NextHolds (ends d) = q.holds d.wish
  NextHolds no_step = Unit {0}

  module _ (p : Point) (a : q.holds p.wish) where
    gives_keeps : (result : Option (List ℕ)) (o : Option Held) → NextHolds (gives p result o)
    gives_keeps result None = tt
    gives_keeps result (Some h) = a

    jumps_keeps : (o : Option Control) → NextHolds (jumps p o)
    jumps_keeps None = tt
    jumps_keeps (Some c) = a

    wishes_keeps : (o : Option Wish) → IfSome o q.holds → NextHolds (wishes p o)
    wishes_keeps None h = tt
    wishes_keeps (Some w) h = h

    tells_keeps : (o : Option Bool) → NextHolds (tells p o)
    tells_keeps None = tt
    tells_keeps (Some b) = a

    stores_keeps : (n : List ℕ) (old v : Option Datum) → NextHolds (stores p n old v)
    stores_keeps n (Some old) (Some v) = a
    stores_keeps n (Some old) None = tt
    stores_keeps n None v = tt

    opens_keeps : (result : Option (List ℕ)) (o : Option Control) → NextHolds (opens p result o)
    opens_keeps result None = tt
    opens_keeps result (Some c) = at (nat_lt (length p.callers) max_calls)
      where
        at : (b : Bool) → NextHolds (if b then goes (record p { control = c; callers = record { control = p.control; result = result } ∷ p.callers }) else no_step)
        at true = a
        at false = tt

    goes_back_keeps : (c : Caller) (more : List Caller) (o : Option Env) → NextHolds (goes_back p c more o)
    goes_back_keeps c more None = tt
    goes_back_keeps c more (Some e) = a

    returns_keeps : (o : Option OperandText) (cs : List Caller) → NextHolds (returns p o cs)
    returns_keeps o [] = tt
    returns_keeps o (c ∷ more) = goes_back_keeps c more _

    ends_keeps : (cs : List Caller) (o : Option Stand) → NextHolds (ends_at p cs o)
    ends_keeps [] (Some stand) = a
    ends_keeps [] None = tt
    ends_keeps (c ∷ more) o = tt

  executes_keeps : (fs : List UnitText) (now : List Bool) (i : InstText) (result : Option (List ℕ)) (p : Point) → q.holds p.wish → NextHolds (executes (scene fs now) i result p)
  executes_keeps fs now (const_text d) result p a = a
  executes_keeps fs now (pure_text o args) result p a = gives_keeps p a result _
  executes_keeps fs now (var_text x) result p a = gives_keeps p a result _
  executes_keeps fs now (ld_text x) result p a = gives_keeps p a result _
  executes_keeps fs now (st_text to value) result p a = stores_keeps p a to.value _ _
  executes_keeps fs now (prb_text x) result p a = gives_keeps p a result _
  executes_keeps fs now (drv_text to value after c) result p a = wishes_keeps p a _ (driven_keeps p.control.held p.wish to value after c a)
  executes_keeps fs now (call_text f ty args) result p a = at (is_assert f)
    where
      at : (b : Bool) → NextHolds (if b then tells p (asserted p.control.held args) else opens p result (called (function_named f fs) (data_at p.control.held args)))
      at true = tells_keeps p a _
      at false = opens_keeps p a result _
  executes_keeps fs now (phi_text ty edges) result p a = a
  executes_keeps fs now (br_text to) result p a = jumps_keeps p a _
  executes_keeps fs now (branch_text c first second) result p a = jumps_keeps p a _
  executes_keeps fs now (wait_text to after signals) result p a = ends_keeps p a p.callers _
  executes_keeps fs now halt_text result p a = ends_keeps p a p.callers _
  executes_keeps fs now (ret_text o) result p a = returns_keeps p a o p.callers
  executes_keeps fs now (sig_text x) result p a = tt
  executes_keeps fs now (reg_text to triggers) result p a = tt
  executes_keeps fs now (child_text u inputs outputs) result p a = tt

  steps_keeps : (fs : List UnitText) (now : List Bool) (p : Point) (rest : List LineText) → q.holds p.wish → NextHolds (steps_by (scene fs now) p rest)
  steps_keeps fs now p [] a = tt
  steps_keeps fs now p (l ∷ rest) a = executes_keeps fs now l.inst l.result (record p { control = record p.control { rest = rest } }) a

  run_keeps : (n : ℕ) (fs : List UnitText) (now : List Bool) (p : Point) → q.holds p.wish → IfSome (run n (scene fs now) p) (λ d. q.holds d.wish)
  run_keeps zero fs now p a = tt
  run_keeps (suc n) fs now p a = at (step (scene fs now) p) (steps_keeps fs now p p.control.rest a) (run_keeps n fs now)
    where
      at : (x : Next) → NextHolds x → ((r : Point) → q.holds r.wish → IfSome (run n (scene fs now) r) (λ d. q.holds d.wish)) → IfSome (went x (run n (scene fs now))) (λ d. q.holds d.wish)
      at (goes r) b ih = ih r b
      at (ends d) b ih = b
      at no_step b ih = tt

  activate_keeps : (bound : ℕ) (fs : List UnitText) (now : List Bool) (u : UnitText) (p : ProcessState) → IfSome (activate bound (scene fs now) u p) (λ d. q.holds d.wish)
  unfolding activate
  activate_keeps bound fs now u p = at (control_at u p)
    where
      at : (o : Option Control) → IfSome (option_and_then (λ c. run bound (scene fs now) (start_point c)) o) (λ d. q.holds d.wish)
      at None = tt
      at (Some c) = run_keeps bound fs now (start_point c) q.nothing

  -- and of a pass
  or_keeps : (o : Option Wish) (w : Wish) → IfSome o q.holds → q.holds w → q.holds (unwrap_or o w)
  or_keeps None w h a = a
  or_keeps (Some x) w h a = h

  if_keeps : (b : Bool) (x y : Wish) → q.holds x → q.holds y → q.holds (if b then x else y)
  if_keeps true x y a b = a
  if_keeps false x y a b = b

  stored_keeps : (to : OperandText) (g : TriggerText) (p : Passed) → q.holds p.wish → q.holds (stored t to g p)
  stored_keeps to g p a = or_keeps _ p.wish (drive_due_keeps p.wish (part_at p.held to.value) (datum_at p.held g.value) (delay_of p.held g.after) a) a

  triggers_keeps : (memory : Option (List Bool)) (to : OperandText) (gs : List TriggerText) (fired : Bool) (p : Passed) → q.holds p.wish → q.holds (triggers_from memory t to fired p gs).wish
  triggers_keeps memory to [] fired p a = a
  triggers_keeps memory to (g ∷ more) fired p a = triggers_keeps memory to more _ _ (if_keeps (not fired && fires memory p g) _ _ (stored_keeps to g p a) a)

  passes_keeps : (u : UnitText) (now : List Bool) (memory : Option (List Bool)) (i : InstText) (result : Option (List ℕ)) (p : Passed) → q.holds p.wish
      → q.holds (passes u now memory t i result p).wish
  passes_keeps u now memory (const_text d) result p a = a
  passes_keeps u now memory (pure_text o args) result p a = a
  passes_keeps u now memory (prb_text s) result p a = a
  passes_keeps u now memory (drv_text to value after c) result p a = or_keeps _ p.wish (driven_keeps p.held p.wish to value after c a) a
  passes_keeps u now memory (reg_text to triggers) result p a = triggers_keeps memory to triggers false p a
  passes_keeps u now memory (var_text x) result p a = a
  passes_keeps u now memory (ld_text x) result p a = a
  passes_keeps u now memory (st_text to value) result p a = a
  passes_keeps u now memory (sig_text x) result p a = a
  passes_keeps u now memory (child_text v inputs outputs) result p a = a
  passes_keeps u now memory (call_text f ty args) result p a = a
  passes_keeps u now memory (phi_text ty edges) result p a = a
  passes_keeps u now memory (br_text to) result p a = a
  passes_keeps u now memory (branch_text c first second) result p a = a
  passes_keeps u now memory (wait_text to after signals) result p a = a
  passes_keeps u now memory halt_text result p a = a
  passes_keeps u now memory (ret_text o) result p a = a

  pass_from_keeps : (u : UnitText) (now : List Bool) (memory : Option (List Bool)) (ls : List LineText) (p : Passed) → q.holds p.wish → q.holds (pass_from u now memory t p ls).wish
  pass_from_keeps u now memory [] p a = a
  pass_from_keeps u now memory (l ∷ more) p a = pass_from_keeps u now memory more _ (passes_keeps u now memory l.inst l.result p a)

  pass_keeps : (u : UnitText) (args sigs : List Range) (now : List Bool) (memory : Option (List Bool)) → q.holds (pass u args sigs now memory t).wish
  unfolding pass
  pass_keeps u args sigs now memory = pass_from_keeps u now memory (lines_of u.blocks) (record { held = parts_of u args sigs; seen = []; wish = no_wish }) q.nothing

  process_keeps : (p : ProcessState) (o : Option Activated) → IfSome o (λ d. q.holds d.wish) → q.holds (process_act p o).wish
  process_keeps p None h = q.nothing
  process_keeps p (Some d) h = h

  pub runs_keeps : (r : Rules) (now : List Bool) (u : UnitText) (i : Instance) (state : State) → q.holds (runs r now t u i state).wish
  runs_keeps r now u i (of_process p) = process_keeps p (activate r.bound (scene r.functions now) u p) (activate_keeps r.bound r.functions now u p)
  runs_keeps r now u i (of_entity memory) = pass_keeps u i.args i.sigs now memory

  if_woken_keeps : (is_woken : Bool) (a : Act) (state : State) → q.holds a.wish → q.holds (if_woken is_woken a state).wish
  if_woken_keeps true a state h = h
  if_woken_keeps false a state h = q.nothing

-- and of what an instance does in a frame
pub act_keeps : (r : Rules) (m : Moment) (q : WishProperty m.at) (u : UnitText) (i : Instance) (state : State) → q.holds (act r m u i state).wish
act_keeps r m q u i state = if_woken_keeps m.at q (woken m u i state) (runs r m.now m.at u i state) state (runs_keeps m.at q r m.now u i state)
