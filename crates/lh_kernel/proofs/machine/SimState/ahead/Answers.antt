use Rattle.std.proofs.Common.{◌≡◌, ◌∙◌, ◌<◌, ℕ, List, Bool, length, refl, ap, sym, subst}
use Rattle.lh_queue.specs.Holds.{entries, AreBitsAt}
use Rattle.lh_kernel.specs.Touched.{bits_then}
use Rattle.lh_kernel_changes.specs.Touched.{OthersStay}
use Rattle.lh_kernel.specs.Kept.{IsKept}
use Rattle.lh_kernel.specs.Phases.{awake_in, woken_in, IsPlanned, RisesWithin}
use Rattle.lh_kernel.proofs.NotedInstances.{on_err, noted_itself}
use Rattle.lh_kernel.proofs.Tallies.{rises_none, rises_woken}
use Rattle.lh_kernel.specs.declared.machine.SimState.{SimState}
use Rattle.lh_kernel.proofs.machine.SimState.ahead.Goals as goal
use Rattle.lh_trace_laws.proofs.ValuesLaw.{as_many}

pub put_signals-requires-clause-width : goal.put_signals-requires-clause-width
put_signals-requires-clause-width g c =
    let s = c.args.self.now in
    let h : length c.look_due.new.now ≡ length s.design.init =
    ap length c.look_due.ensures.bits ∙ as_many (entries s.queue.held) c.args.at 0 s.looked ∙ ap length c.requires.kept.same ∙ c.requires.kept.width in
    let new : SimState = record s { looked = c.look_due.new.now; queue = c.prepared.new.self.queue; noted = c.prepared.new.self.noted } in
    ap (λ (m : SimState). length m.looked) {y = new} c.prepared.ensures.same ∙ h ∙ sym (ap (λ (m : SimState). length m.design.init) {y = new} c.prepared.ensures.same)

pub put_signals-requires-clause-known : goal.put_signals-requires-clause-known
put_signals-requires-clause-known g c = λ k h.
    subst (λ (n : ℕ). k < n) (sym (ap (λ (m : SimState). length m.design.signals.items) c.prepared.ensures.same)) (c.in_ok-touched.ensures.known k h)

pub returns-clause-err_tally : goal.returns-clause-err_tally
returns-clause-err_tally g c =
    let s = c.args.self.now in
    let e : c.look_due.new.now ≡ bits_then s.queue.held c.args.at s.bits = c.look_due.ensures.bits ∙ ap (λ (x : List Bool). bits_then s.queue.held c.args.at x) c.requires.kept.same in
    let v : AreBitsAt s.queue.held s.bits c.args.at c.look_due.new.now =
    subst (λ (x : List Bool). AreBitsAt s.queue.held x c.args.at c.look_due.new.now) c.requires.kept.same c.look_due.ensures.values in
    let M : List Bool → SimState = λ x. record s { looked = x } in
    rises_woken s c.args.at c.look_due.new.now (g.T.Tally.count c.args.tally.now) (g.T.Tally.count c.prepared.new.tally) c.requires.kept c.requires.next e v
    (subst (λ (x : List Bool). RisesWithin (awake_in (M x) c.args.at) (g.T.Tally.count c.args.tally.now) (g.T.Tally.count c.prepared.new.tally)) e c.in-Err.ensures.err_tally)

pub returns-in_err-touched-clause-err_tally : goal.returns-in_err-touched-clause-err_tally
returns-in_err-touched-clause-err_tally g c = on_err c.from_residual.result
    (λ w h. rises_none (woken_in c.args.self.now w c.args.at) (g.T.Tally.count c.args.tally.now) (g.T.Tally.count c.args.tally.now) refl)

pub returns-in_err-touched-clause-err : goal.returns-in_err-touched-clause-err
returns-in_err-touched-clause-err g c = on_err c.from_residual.result (c.requires.kept.same, refl, noted_itself c.args.self.now.noted)

pub returns-in-Ok-clause-ok : goal.returns-in-Ok-clause-ok
returns-in-Ok-clause-ok g c =
    let s = c.args.self.now in
    let e : c.look_due.new.now ≡ bits_then s.queue.held c.args.at s.bits = c.look_due.ensures.bits ∙ ap (λ (x : List Bool). bits_then s.queue.held c.args.at x) c.requires.kept.same in
    record {
      plan = subst (λ (x : List Bool). IsPlanned (record s { looked = x }) c.args.at c.in-Ok.plan) e c.in-Ok.ensures.planned;
      looked = ap (λ (m : SimState). m.looked) c.prepared.ensures.same ∙ e;
      held = c.prepared.ensures.held;
      room = c.in-Ok.ensures.room;
      noted = c.in-Ok.ensures.entered;
    }

pub prepared-requires : goal.prepared-requires
prepared-requires g c =
    let s = c.args.self.now in
    let n = c.requires.next in
    let e : c.look_due.new.now ≡ bits_then s.queue.held c.args.at s.bits = c.look_due.ensures.bits ∙ ap (λ (x : List Bool). bits_then s.queue.held c.args.at x) c.requires.kept.same in
    record {
      looked = record {
        kept = subst (λ (x : List Bool). IsKept (record s { looked = x })) c.requires.kept.same c.requires.kept;
        comes = record { after = n.after; due = n.due; wakes = n.wakes };
        looked = e;
        known = c.in_ok-touched.ensures.known;
        others = subst (OthersStay s.design.signals.items c.in_ok-touched.touched s.bits) (sym e) (c.in_ok-touched.ensures.others s.bits c.requires.kept.width);
      };
    }
