use Rattle.std.proofs.Common.{◌≡◌, ℕ, List, Option, Some, None, false, refl, ap, sym, ◌∙◌, subst}
use Rattle.lh_kernel.specs.declared.noted.Move.{Move}
use Rattle.lh_kernel.specs.Ran.{states_after}
use Rattle.lh_queue.specs.Queued.{QueuedWish}
use Rattle.lh_kernel.specs.Moves.{HasLeft, MovesKnown}
use Rattle.lh_kernel.specs.Simulation.{simulation_of}
use Rattle.lh_kernel.specs.declared.machine.SimState.{SimState}
use Rattle.lh_types.specs.Raised.{raised}
use Rattle.lh_unit.specs.Frames.{activated_count}
use Rattle.lh_kernel.specs.Phases.{awake_in, looked_at}
use Rattle.lh_kernel.proofs.NotedInstances.{on_err}
use Rattle.lh_kernel.proofs.Tallies.{tally_woken}
use Rattle.lh_kernel.proofs.FrameLaws.{is_taken, there_ahead, can_taken, kept_same, kept_runaway, back_same, kept_frame, frame_ends, frame_goes_on}
use Rattle.lh_kernel.proofs.machine.SimState.frame.Goals as goal

pub commit-requires-clause-can : goal.commit-requires-clause-can
commit-requires-clause-can g c =
    let t = is_taken c.args.self.now c.ahead.new.self c.args.at c.in_ok-frame.field-0 c.take_due.new.now c.take_due.new.self.held c.ahead.ensures.same c.in_ok-frame.ensures.ok
    c.take_due.ensures.left c.take_due.ensures.bits c.take_due.ensures.values c.take_due.ensures.holds in
    can_taken c.args.self.now c.args.at c.in_ok-frame.field-0 c.requires.kept c.requires.next t.plan c.take_due.new.self.held t.later

pub commit-requires-clause-instances : goal.commit-requires-clause-instances
commit-requires-clause-instances g c = there_ahead c.args.self.now c.ahead.new.self c.args.at c.in_ok-frame.field-0 c.ahead.ensures.same c.requires.kept c.in_ok-frame.ensures.ok

pub returns-in_err-frame-clause-kept : goal.returns-in_err-frame-clause-kept
returns-in_err-frame-clause-kept g c =
    let h = c.in_err-frame.ensures.err in
    kept_same c.args.self.now c.ahead.new.self c.requires.kept c.ahead.ensures.same h.0 h.1 h.2

pub returns-in_err-frame-clause-err_tally : goal.returns-in_err-frame-clause-err_tally
returns-in_err-frame-clause-err_tally g c = on_err c.from_residual.result c.in_err-frame.ensures.err_tally

pub returns-in-Some-clause-kept : goal.returns-in-Some-clause-kept
returns-in-Some-clause-kept g c =
    let t = is_taken c.args.self.now c.ahead.new.self c.args.at c.in_ok-frame.field-0 c.take_due.new.now c.take_due.new.self.held c.ahead.ensures.same c.in_ok-frame.ensures.ok
    c.take_due.ensures.left c.take_due.ensures.bits c.take_due.ensures.values c.take_due.ensures.holds in
    let M : SimState → SimState = λ m. record m { bits = c.take_due.new.now; queue = c.take_due.new.self; noted = c.take_back.new.self } in
    kept_runaway c.args.self.now (M c.ahead.new.self) c.args.at c.in_ok-frame.field-0 c.take_due.new.now c.ahead.new.self.looked c.take_due.new.self.held c.ahead.new.self.noted c.requires.kept
    (ap M c.ahead.ensures.same) t refl
    (back_same c.args.self.now c.args.at c.in_ok-frame.field-0 c.take_due.new.now c.ahead.new.self.looked c.take_due.new.self.held
    c.ahead.new.self.noted c.take_back.new.self c.deref.result.now c.requires.kept t
    c.deref.ensures.value c.take_back.ensures.all)

pub returns-in-Some-clause-frame : goal.returns-in-Some-clause-frame
returns-in-Some-clause-frame g c =
    let t = is_taken c.args.self.now c.ahead.new.self c.args.at c.in_ok-frame.field-0 c.take_due.new.now c.take_due.new.self.held c.ahead.ensures.same c.in_ok-frame.ensures.ok
    c.take_due.ensures.left c.take_due.ensures.bits c.take_due.ensures.values c.take_due.ensures.holds in
    frame_ends c.args.self.now c.args.at c.in_ok-frame.field-0 c.requires.kept c.requires.next t.plan _ c.take_due.new.now c.ahead.new.self.looked
    c.take_due.new.self.held c.ahead.new.self.noted c.in-Some.instance refl t c.in-Some.is

pub returns-in-None-clause-kept : goal.returns-in-None-clause-kept
returns-in-None-clause-kept g c =
    let t = is_taken c.args.self.now c.ahead.new.self c.args.at c.in_ok-frame.field-0 c.take_due.new.now c.take_due.new.self.held c.ahead.ensures.same c.in_ok-frame.ensures.ok
    c.take_due.ensures.left c.take_due.ensures.bits c.take_due.ensures.values c.take_due.ensures.holds in
    let new = c.commit.new.self in
    let xs = c.in_ok-frame.field-0.acts.items in
    let M : SimState → SimState = λ m. record m { looked = c.ahead.new.self.looked; bits = c.take_due.new.now; last = Some c.args.at; states = new.states; queue = new.queue; noted = new.noted } in
    let e : new ≡ M c.args.self.now = c.commit.ensures.same ∙ ap M c.ahead.ensures.same in
    let s : new.states.items ≡ states_after c.args.self.now.states.items xs = c.commit.ensures.states ∙ ap (λ (m : SimState). states_after m.states.items xs) c.ahead.ensures.same in
    let left : HasLeft c.in_ok-frame.field-0.moves.items c.ahead.new.self.noted new.noted =
    subst (λ (ms : List Move). HasLeft ms c.ahead.new.self.noted new.noted) c.deref-in-None.ensures.value c.commit.ensures.left in
    kept_frame c.args.self.now c.args.at c.in_ok-frame.field-0 c.requires.kept c.requires.next t.plan new c.take_due.new.now c.ahead.new.self.looked
    c.take_due.new.self.held c.ahead.new.self.noted e t c.in-None.is s
    c.commit.ensures.put left

pub returns-in-None-clause-frame : goal.returns-in-None-clause-frame
returns-in-None-clause-frame g c =
    let t = is_taken c.args.self.now c.ahead.new.self c.args.at c.in_ok-frame.field-0 c.take_due.new.now c.take_due.new.self.held c.ahead.ensures.same c.in_ok-frame.ensures.ok
    c.take_due.ensures.left c.take_due.ensures.bits c.take_due.ensures.values c.take_due.ensures.holds in
    let new = c.commit.new.self in
    let xs = c.in_ok-frame.field-0.acts.items in
    let M : SimState → SimState = λ m. record m { looked = c.ahead.new.self.looked; bits = c.take_due.new.now; last = Some c.args.at; states = new.states; queue = new.queue; noted = new.noted } in
    let e : new ≡ M c.args.self.now = c.commit.ensures.same ∙ ap M c.ahead.ensures.same in
    let s : new.states.items ≡ states_after c.args.self.now.states.items xs = c.commit.ensures.states ∙ ap (λ (m : SimState). states_after m.states.items xs) c.ahead.ensures.same in
    frame_goes_on c.args.self.now c.args.at c.in_ok-frame.field-0 c.requires.kept c.requires.next t.plan new c.take_due.new.now
    c.ahead.new.self.looked c.take_due.new.self.held c.ahead.new.self.noted e t c.in-None.is s
    c.commit.ensures.put

pub returns-in-Some-clause-tally : goal.returns-in-Some-clause-tally
returns-in-Some-clause-tally g c =
    let t = is_taken c.args.self.now c.ahead.new.self c.args.at c.in_ok-frame.field-0 c.take_due.new.now c.take_due.new.self.held c.ahead.ensures.same c.in_ok-frame.ensures.ok
    c.take_due.ensures.left c.take_due.ensures.bits c.take_due.ensures.values c.take_due.ensures.holds in
    tally_woken c.args.self.now c.args.at c.take_due.new.now (Some c.in-Some.instance) (g.T.Tally.count c.args.tally.now)
    (g.T.Tally.count c.ahead.new.tally) c.requires.kept c.requires.next t.bits t.values
    (c.in_ok-frame.ensures.tally ∙ ap (λ (r : Option ℕ). raised (g.T.Tally.count c.args.tally.now) (activated_count r (awake_in (looked_at c.args.self.now c.args.at) c.args.at))) c.in-Some.is)

pub returns-in-None-clause-tally : goal.returns-in-None-clause-tally
returns-in-None-clause-tally g c =
    let t = is_taken c.args.self.now c.ahead.new.self c.args.at c.in_ok-frame.field-0 c.take_due.new.now c.take_due.new.self.held c.ahead.ensures.same c.in_ok-frame.ensures.ok
    c.take_due.ensures.left c.take_due.ensures.bits c.take_due.ensures.values c.take_due.ensures.holds in
    tally_woken c.args.self.now c.args.at c.take_due.new.now None (g.T.Tally.count c.args.tally.now) (g.T.Tally.count c.ahead.new.tally) c.requires.kept c.requires.next t.bits t.values
    (c.in_ok-frame.ensures.tally ∙ ap (λ (r : Option ℕ). raised (g.T.Tally.count c.args.tally.now) (activated_count r (awake_in (looked_at c.args.self.now c.args.at) c.args.at))) c.in-None.is)

pub returns-in_err-frame-clause-err : goal.returns-in_err-frame-clause-err
returns-in_err-frame-clause-err g c =
    on_err c.from_residual.result
    (ap (λ (m : SimState). simulation_of m false) {y = record c.args.self.now { looked = c.ahead.new.self.looked; queue = c.ahead.new.self.queue; noted = c.ahead.new.self.noted }}
    c.ahead.ensures.same ∙ ap (λ (h : List QueuedWish). record (simulation_of c.args.self.now false) { held = h }) c.in_err-frame.ensures.err.1)

pub commit-requires-clause-known : goal.commit-requires-clause-known
commit-requires-clause-known g c =
    let signals = c.args.self.now.design.signals.items in
    let ok = c.in_ok-frame.ensures.ok in
    (signals, ok.noted.long ∙ c.requires.kept.noted.long, subst (MovesKnown signals) (sym c.deref-in-None.ensures.value) ok.plan.known)
