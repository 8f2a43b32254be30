-- Where an activation begins, and what it leaves.
use Rattle.std.proofs.Common.{◌≡◌, ℕ, ◌<◌, List, [], ◌∷◌, map, reverse, replicate, Bool, true, Option, Some, None, Ok, Err, refl, ap, sym, ◌∙◌, subst}
use Rattle.std.specs.Option.{option_and_then}
use Rattle.std.proofs.lemmas.Option.{same_Some, none-some}
use Rattle.lh_time.specs.declared.Instant.{Instant}
use Rattle.lh_types.specs.Wish.{no_wish}
use Rattle.lh_types.specs.declared.part.Range.{Range}
use Rattle.lh_unit.specs.Contents.{BlockText, UnitText, wait_text}
use Rattle.lh_unit.specs.Activation.{Stand, waits, halted, Control, Point, ProcessState, Activated, goes, no_step, jumps, entered, control_from, control_at, start_point, Scene, run, activate}
use Rattle.lh_unit.specs.Arena.{Arena, IsArena, contents, naming, table_at, kind_at, args_at, blocks_at, block_insts_at, unit_count, value_count, label_count, label_name_at, unit_text_at}
use Rattle.lh_unit.specs.Held.{Held, Env, part_held, nothing_held, with_args}
use Rattle.lh_unit.specs.Table.{HasBlocks, is_block}
use Rattle.lh_unit.specs.ById.{inst_line_text}
use Rattle.lh_unit.specs.WellFormed.{IsWellFormed}
use Rattle.lh_unit.specs.Within.{Each}
use Rattle.lh_unit.specs.declared.inst.UnitKind.TheVariants as kind
use Rattle.lh_unit.proofs.ModuleLaws.{unit-by_name}
use Rattle.lh_eval.specs.Holding.{Holds}
use Rattle.lh_eval.specs.Fitting.{Fits}
use Rattle.lh_eval.specs.Beginning.{args_given}
use Rattle.lh_eval.specs.WishOf.{writes_wish}
use Rattle.lh_eval.specs.Grouped.{IsGrouped}
use Rattle.lh_eval.specs.Wishing.{WishWithin}
use Rattle.lh_eval.proofs.HeldByIds.{holds-nothing}
use Rattle.lh_eval.proofs.BeginSteps.{args-held}
use Rattle.lh_eval.proofs.DriveWishes.{writes-within}
use Rattle.lh_eval_laws.specs.Ranges.{RangesFit, arg_types}
use Rattle.lh_verify_laws.proofs.EachItem.{each-split}
use Rattle.lh_eval_laws.proofs.FitLaws.{process-begins}
use Rattle.lh_exec.specs.declared.machine.UnitFrame.{UnitFrame}
use Rattle.lh_exec.specs.declared.machine.Call.{Call}
use Rattle.lh_exec.specs.declared.machine.Machine.{Machine}
use Rattle.lh_exec.specs.declared.machine.Flow.{Flow}
use Rattle.lh_exec.specs.declared.machine.Flow.TheVariants as flow
use Rattle.lh_exec.specs.declared.state.Pause.{Pause}
use Rattle.lh_exec.specs.declared.state.Stand as declared
use Rattle.lh_exec.specs.declared.state.Stand.TheVariants as stand
use Rattle.lh_exec.specs.declared.process.Act.{Act}
use Rattle.lh_exec.specs.Standing.{FrameIs, CallsAre, MachineIs, InstLeads, Ends, MaybeFrame}
use Rattle.lh_exec.specs.declared.process.ExecFault.TheVariants as fault
use Rattle.lh_exec.specs.States.{waited_by, StandsBy, PartsWithin, SlotsFit, PauseFits, FitsBy, WakesLaterBy, GivesActivation, GivesMaybe, ActivationOrRunaway}
use Rattle.lh_exec.specs.Laws.{parts_of, wake_of}
use Rattle.lh_unit.specs.World.{waited, wake_at, begun}
use Rattle.lh_exec.specs.Sound.{LineRight, PointFits, StandFits, BeginsAt, Finishes, stood, StandHolds, EndHolds}
use Rattle.lh_exec.proofs.KeepsFit.{Placed, entered-fits, entry-fits, block-has}
use Rattle.lh_exec.proofs.Rights.{unit-right, label-stands, typed-value}

-- ---- the machine where an activation begins

pub machine-starts : (a : Arena) (f : UnitFrame) (c : Control) (m : Machine) → IsArena a → FrameIs a f c → m.frame ≡ f → m.callers.items ≡ [] → m.wishes ≡ no_wish → m.outcomes ≡ []
    → MachineIs a m (start_point c)
machine-starts a f c m o k e g w r = record {
  arena = o;
  frame = subst (λ (x : UnitFrame). FrameIs a x c) (sym e) k;
  callers = subst (λ (cs : List Call). CallsAre a (reverse cs) []) (sym g) tt;
  wish = w;
  outcomes = r;
}

pub begins-some : (a : Arena) (f : UnitFrame) (o : Option Control) (m : Machine) → IsArena a → MaybeFrame a (Some f) o → m.frame ≡ f → m.callers.items ≡ [] → m.wishes ≡ no_wish → m.outcomes ≡ []
    → BeginsAt a (Some m) o
begins-some a f None m r k e g w s = absurd k
begins-some a f (Some c) m r k e g w s = machine-starts a f c m r k e g w s

pub begins-none : (a : Arena) (o : Option Control) → MaybeFrame a None o → BeginsAt a None o
begins-none a None k = tt
begins-none a (Some c) k = absurd k

-- after an edge
pub from-goes : (a : Arena) (n : Machine) (fl : Flow) (v : UnitText) (c : Control) (o : Option Control) → fl ≡ flow.Goes → InstLeads a n fl v (jumps (start_point c) o) → BeginsAt a (Some n) o
from-goes a n fl v c None e k = absurd (subst (λ (x : Flow). InstLeads a n x v no_step) e k)
from-goes a n fl v c (Some d) e k = subst (λ (x : Flow). InstLeads a n x v (goes (start_point d))) e k

pub from-lost : (a : Arena) (n : Machine) (fl : Flow) (v : UnitText) (c : Control) (o : Option Control) → (fl ≡ flow.Goes → ⊥) → InstLeads a n fl v (jumps (start_point c) o) → BeginsAt a None o
from-lost a n fl v c None e k = tt
from-lost a n flow.Goes v c (Some d) e k = absurd (e refl)
from-lost a n (flow.Waits to on) v c (Some d) e k = absurd k
from-lost a n flow.Halts v c (Some d) e k = absurd k
from-lost a n flow.Lost v c (Some d) e k = absurd k

module _ (a : Arena) (u : ℕ) (o : IsArena a) (h : u < unit_count a) where
  pub held-args : (ranges : List Range) (slots : List (Option Held)) → slots ≡ args_given (args_at a u) ranges (replicate (value_count a u) None)
      → Holds a u slots (with_args nothing_held (unit_text_at a u).args (map part_held ranges))
  held-args ranges slots e =
      subst (λ (s : List (Option Held)). Holds a u s (with_args nothing_held (unit_text_at a u).args (map part_held ranges))) (sym e)
      (args-held a u o h (args_at a u) ranges (replicate (value_count a u) None) nothing_held (o.tables u h).args_within (holds-nothing a u))

  module _ (b : HasBlocks (kind_at a u)) (g : IsWellFormed (contents a)) (w : ℕ) where
    pub waits-block : (x : Pause) → PauseFits a u w x → is_block (blocks_at a u) x.block.0 ≡ true
    waits-block x f = label-stands a o g u h b x.block.0 f.block (f.stands.text, f.stands.stands)

    pub waits-to : (x : Pause) → PauseFits a u w x → is_block (blocks_at a u) x.to.0 ≡ true
    waits-to x f =
        let right = unit-right a o g u h b in
        let lines = block-has (λ (y : BlockText). Each (LineRight (contents a) (unit_text_at a u)) y.lines) (label_name_at a u x.block.0) (unit_text_at a u).blocks f.stands.text right.lines
        f.stands.stands in
        let all = each-split (LineRight (contents a) (unit_text_at a u)) f.stands.before
        (record { result = f.stands.name; inst = wait_text (label_name_at a u x.to.0) f.stands.delay f.stands.signals } ∷ f.stands.after)
        (subst (Each (LineRight (contents a) (unit_text_at a u))) f.stands.split lines) in
        label-stands a o g u h b x.to.0 f.to all.1.0.labels.0

    -- the frame at a `wait`
    pub wait-frame : (x : Pause) (slots : List (Option Held)) (e : Env) → PauseFits a u w x → Holds a u slots e
        → FrameIs a (record { unit = record { 0 = u }; block = x.block; next = 0; slots = slots }) (record
        { unit = unit_text_at a u; block = label_name_at a u x.block.0; rest = map (inst_line_text (naming a u) (table_at a u)) (block_insts_at a u x.block.0); held = e })
    wait-frame x slots e f d = record { within = h; has_blocks = b; label = f.block; stands = waits-block x f; unit = refl; block = refl; rest = refl; held = d }

    -- the control there
    abbrev pub wait-control : Pause → Env → Control
    wait-control x e = record { unit = unit_text_at a u; block = label_name_at a u x.block.0; rest = map (inst_line_text (naming a u) (table_at a u)) (block_insts_at a u x.block.0); held = e }

    abbrev pub wait-at : Pause → List (Option Held) → UnitFrame
    wait-at x slots = record { unit = record { 0 = u }; block = x.block; next = 0; slots = slots }

    pub wait-leads : (x : Pause) (slots : List (Option Held)) (p : ProcessState) (n k : Machine) (fl : Flow) → PauseFits a u w x → slots ≡ x.slots → n.frame ≡ wait-at x slots → n.callers.items ≡ []
        → n.wishes ≡ no_wish → n.outcomes ≡ [] → StandsBy a u [] (stand.Waits x) p
        → ((q : Point) → MachineIs a n q → InstLeads a k fl q.control.unit (jumps q (entered q.control.unit q.control.held q.control.block (label_name_at a n.frame.unit.0 x.to.0))))
        → InstLeads a k fl (unit_text_at a u) (jumps (start_point (wait-control x p.held)) (control_at (unit_text_at a u) p))
    wait-leads x slots p n k fl f e frame calls wish outcomes d go =
        let at : FrameIs a (wait-at x slots) (wait-control x p.held) = wait-frame x slots p.held f (subst (λ (s : List (Option Held)). Holds a u s p.held) (sym e) d.1) in
        let led = go (start_point (wait-control x p.held)) (machine-starts a (wait-at x slots) (wait-control x p.held) n o at frame calls wish outcomes) in
        let same : label_name_at a n.frame.unit.0 x.to.0 ≡ label_name_at a u x.to.0 = ap (λ (y : UnitFrame). label_name_at a y.unit.0 x.to.0) frame in
        let to : entered (unit_text_at a u) p.held (label_name_at a u x.block.0) (label_name_at a n.frame.unit.0 x.to.0) ≡ control_at (unit_text_at a u) p =
        ap (entered (unit_text_at a u) p.held (label_name_at a u x.block.0)) same ∙ sym (ap (control_from (unit_text_at a u) p.held) d.0) in
        subst (λ (z : Option Control). InstLeads a k fl (unit_text_at a u) (jumps (start_point (wait-control x p.held)) z)) to led

    -- ---- what fits there

    pub same-fits : (slots : List (Option Held)) (e : Env) → SlotsFit a u w slots → Holds a u slots e → Fits (unit_text_at a u) w e
    same-fits slots e f d n x t p q =
        let v = typed-value a o g u h n t q in
        let there : f.env n ≡ Some x =
        ap f.env (sym v.2) ∙ sym (f.holds.each v.0 (subst (λ (k : ℕ). v.0.0 < k) (sym f.holds.long) v.1)) ∙ d.each v.0 (subst (λ (k : ℕ). v.0.0 < k) (sym d.long) v.1) ∙ ap e v.2 ∙ p in
        f.fits n x t there q

    start-fits : (c : Control) → Placed (contents a) w (unit_text_at a u) c → PointFits (contents a) w (unit_text_at a u) (start_point c)
    start-fits c k = record { control = k.0; callers = tt; began = k.1; wish = tt }

    pub begin-fits : (process : kind_at a u ≡ Some kind.Proc) (args : List Range) → RangesFit w args (arg_types (unit_text_at a u).args) → (s : declared.Stand) → FitsBy a u w s → (p : ProcessState)
        → StandsBy a u args s p → (c : Control) → control_at (unit_text_at a u) p ≡ Some c
        → PointFits (contents a) w (unit_text_at a u) (start_point c)
    begin-fits process args r stand.New f p k c e =
        start-fits c (entry-fits (contents a) w (unit_text_at a u) (begun (unit_text_at a u) args).held c (unit-right a o g u h b) (process-begins a u o h g process args w r)
        (sym (ap (control_at (unit_text_at a u)) k) ∙ e))
    begin-fits process args r (stand.Waits x) f p k c e =
        start-fits c (entered-fits (contents a) w (unit_text_at a u) p.held (label_name_at a u x.block.0) (label_name_at a u x.to.0) c (unit-right a o g u h b) (same-fits x.slots p.held f.held k.1)
        (sym (ap (control_from (unit_text_at a u) p.held) k.0) ∙ e))
    begin-fits process args r stand.Halted f p k c e = absurd (none-some c (sym (ap (control_from (unit_text_at a u) p.held) k) ∙ e))

-- a process has blocks
pub process-blocks : (a : Arena) (u : ℕ) → kind_at a u ≡ Some kind.Proc → HasBlocks (kind_at a u)
process-blocks a u e = subst HasBlocks (sym e) tt

-- each state that fits stands for some state
pub some-state : (a : Arena) (u w : ℕ) (args : List Range) (s : declared.Stand) → FitsBy a u w s → (p : ProcessState) × StandsBy a u args s p
some-state a u w args stand.New f = (begun (unit_text_at a u) args, refl)
some-state a u w args (stand.Waits x) f = (record { stand = waits (label_name_at a u x.block.0) (label_name_at a u x.to.0) x.on.parts x.on.wake; held = f.held.env }, (refl, f.held.holds))
some-state a u w args stand.Halted f = (record { stand = halted; held = nothing_held }, refl)

-- ---- what it leaves

module _ (a : Arena) (u w : ℕ) (args : List Range) (o : IsArena a) (h : u < unit_count a) where
  same-unit : (m : Machine) (at : Stand) (d : Activated) → Ends a m (unit_text_at a u) at d → m.frame.unit.0 ≡ u
  same-unit m at d k = unit-by_name a m.frame.unit.0 u o k.within h (ap (λ (v : UnitText). v.name) (sym k.unit))

  pub finish-gives : (t : Instant) (m : Machine) (fl : Flow) (st : declared.Stand) (ws : List (Instant × List (ℕ × Bool))) (answer : Option Activated) → stood m.frame fl ≡ Some st
      → writes_wish ws ≡ m.wishes → IsGrouped ws → Finishes a u w t m fl answer → EndHolds (unit_text_at a u) answer
      → GivesMaybe a u args w (Some (record { next = record { stand = st }; wishes = ws; outcomes = m.outcomes })) answer
  finish-gives t m flow.Goes st ws answer e v q k there = absurd (none-some st e)
  finish-gives t m flow.Lost st ws answer e v q k there = absurd (none-some st e)
  finish-gives t m (flow.Waits to on) st ws None e v q k there = absurd k
  finish-gives t m flow.Halts st ws None e v q k there = absurd k
  finish-gives t m (flow.Waits to on) st ws (Some d) e v q k there =
      let same = same-unit m (waits (label_name_at a m.frame.unit.0 m.frame.block.0) (label_name_at a m.frame.unit.0 to.0) on.parts on.wake) d k.1 in
      let pause : Pause = record { block = m.frame.block; to = to; slots = m.frame.slots; on = on } in
      let stands : d.state.stand ≡ waits (label_name_at a u m.frame.block.0) (label_name_at a u to.0) on.parts on.wake = k.1.stand
      ∙ ap (λ (x : ℕ). waits (label_name_at a x m.frame.block.0) (label_name_at a x to.0) on.parts on.wake) same in
      let holds : Holds a u m.frame.slots d.state.held = subst (λ (x : ℕ). Holds a x m.frame.slots d.state.held) same k.1.held in
      let fit : StandFits w t (unit_text_at a u) (waits (label_name_at a u m.frame.block.0) (label_name_at a u to.0) on.parts on.wake) = subst (StandFits w t (unit_text_at a u)) stands k.2.stand in
      let held : StandHolds (unit_text_at a u) d.state.held (waits (label_name_at a u m.frame.block.0) (label_name_at a u to.0) on.parts on.wake) = subst (StandHolds (unit_text_at a u) d.state.held)
      stands there in
      let fits : PauseFits a u w pause = record {
        block = subst (λ (x : ℕ). m.frame.block.0 < label_count a x) same k.1.label;
        to = subst (λ (x : ℕ). to.0 < label_count a x) same k.0;
        stands = held.0;
        held = record { env = d.state.held; holds = holds; fits = k.2.held };
        there = held.1;
        parts = fit.1;
      } in
      subst (λ (x : declared.Stand). GivesActivation a u args w (record { next = record { stand = x }; wishes = ws; outcomes = m.outcomes }) d) (same_Some (stand.Waits pause) st e)
      (record { next = (stands, holds); fits = fits; wish = v ∙ k.1.wish; grouped = q; within = writes-within w ws (subst (WishWithin w) (sym (v ∙ k.1.wish)) k.2.wish); outcomes = k.1.outcomes })
  finish-gives t m flow.Halts st ws (Some d) e v q k there =
      subst (λ (x : declared.Stand). GivesActivation a u args w (record { next = record { stand = x }; wishes = ws; outcomes = m.outcomes }) d) (same_Some stand.Halted st e)
      (record { next = k.0.stand; fits = tt; wish = v ∙ k.0.wish; grouped = q; within = writes-within w ws (subst (WishWithin w) (sym (v ∙ k.0.wish)) k.1.wish); outcomes = k.0.outcomes })

  pub finish-none : (t : Instant) (m : Machine) (fl : Flow) (answer : Option Activated) → stood m.frame fl ≡ None → Finishes a u w t m fl answer → GivesMaybe a u args w None answer
  finish-none t m flow.Goes answer e k = absurd k
  finish-none t m flow.Lost None e k = tt
  finish-none t m flow.Lost (Some d) e k = absurd k
  finish-none t m (flow.Waits to on) answer e k = absurd cc
  finish-none t m flow.Halts answer e k = absurd cc

-- it waits for a later instant
pub finish-later : (a : Arena) (u w : ℕ) (t : Instant) (m : Machine) (fl : Flow) (st : declared.Stand) (answer : Option Activated) → stood m.frame fl ≡ Some st → Finishes a u w t m fl answer
    → WakesLaterBy t st
finish-later a u w t m flow.Goes st answer e k = absurd (none-some st e)
finish-later a u w t m flow.Lost st answer e k = absurd (none-some st e)
finish-later a u w t m (flow.Waits to on) st None e k = absurd k
finish-later a u w t m flow.Halts st answer e k = subst (WakesLaterBy t) (same_Some stand.Halted st e) tt
finish-later a u w t m (flow.Waits to on) st (Some d) e k =
    let there : StandFits w t (unit_text_at a u) (waits (label_name_at a m.frame.unit.0 m.frame.block.0) (label_name_at a m.frame.unit.0 to.0) on.parts on.wake) = subst
    (StandFits w t (unit_text_at a u)) k.1.stand k.2.stand in
    subst (WakesLaterBy t) (same_Some (stand.Waits (record { block = m.frame.block; to = to; slots = m.frame.slots; on = on })) st e) there.2

-- what a state waits for is what that waits for, for which it stands
pub waits-as-held : (a : Arena) (u : ℕ) (args : List Range) (s : declared.Stand) (p : ProcessState) → StandsBy a u args s p → (parts_of (waited_by s) ≡ waited p.stand)
    × (wake_of (waited_by s) ≡ wake_at p.stand)
waits-as-held a u args stand.New p k = (ap (λ (x : ProcessState). waited x.stand) (sym k), ap (λ (x : ProcessState). wake_at x.stand) (sym k))
waits-as-held a u args (stand.Waits x) p k = (ap waited (sym k.0), ap wake_at (sym k.0))
waits-as-held a u args stand.Halted p k = (ap waited (sym k), ap wake_at (sym k))

pub waits-within : (a : Arena) (u w : ℕ) (s : declared.Stand) → FitsBy a u w s → PartsWithin w (parts_of (waited_by s))
waits-within a u w stand.New f = tt
waits-within a u w (stand.Waits x) f = f.parts
waits-within a u w stand.Halted f = tt

-- ---- the whole

pub begins-point : (a : Arena) (m : Machine) (o : Option Control) → BeginsAt a (Some m) o → (c : Control) × (o ≡ Some c) × MachineIs a m (start_point c)
begins-point a m None k = absurd k
begins-point a m (Some c) k = (c, refl, k)

pub begins-nowhere : (a : Arena) (o : Option Control) → BeginsAt a None o → o ≡ None
begins-nowhere a None k = refl
begins-nowhere a (Some c) k = absurd k

pub activation-is : (bound : ℕ) (s : Scene) (u : UnitText) (p : ProcessState) (c : Control) → control_at u p ≡ Some c → run bound s (start_point c) ≡ activate bound s u p
unfolding activate
activation-is bound s u p c e = sym (ap (option_and_then (λ (x : Control). run bound s (start_point x))) e)

pub no-activation : (bound : ℕ) (s : Scene) (u : UnitText) (p : ProcessState) → control_at u p ≡ None → None ≡ activate bound s u p
unfolding activate
no-activation bound s u p e = sym (ap (option_and_then (λ (x : Control). run bound s (start_point x))) e)

pub answers-some : (a : Arena) (u : ℕ) (args : List Range) (w : ℕ) (act : Act) (answer : Option Activated) → GivesMaybe a u args w (Some act) answer → ActivationOrRunaway a u args w (Ok act) answer
answers-some a u args w act None k = absurd k
answers-some a u args w act (Some d) k = k

pub answers-none : (a : Arena) (u : ℕ) (args : List Range) (w : ℕ) (answer : Option Activated) → GivesMaybe a u args w None answer → ActivationOrRunaway a u args w (Err fault.Runaway) answer
answers-none a u args w None k = tt
answers-none a u args w (Some d) k = absurd k
