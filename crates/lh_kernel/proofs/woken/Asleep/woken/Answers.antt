use Rattle.std.proofs.Common.{ℕ, List, refl, length, sym, subst}
use Rattle.std.specs.Prelude.{◌↔◌}
use Rattle.lh_kernel_wakes.specs.Rising.{IsOneOf}
use Rattle.lh_kernel_wakes.specs.Waking.{IsNoted}
use Rattle.lh_kernel_changes.proofs.Filled.{known_at}
use Rattle.lh_kernel.proofs.WokenInstances.{woken_more, woken_end, woken_again, woken_are}
use Rattle.lh_kernel.proofs.woken.Asleep.woken.Goals as goal

pub rouse-requires-clause-known : goal.rouse-requires-clause-known
rouse-requires-clause-known c =
    known_at c.args.self.now.design.now.signals.items c.as_slice-signal-items.result.now c.args.touched.now c.loop-signal.signal-index
    c.as_slice-signal-items.ensures.same c.requires.known c.loop-signal-test.true

pub loop-signal-preserved : goal.loop-signal-preserved
loop-signal-preserved c =
    let x = c.args.self.now in
    woken_more x.design.now.signals.items x.states.now x.probes.now x.noted.now c.args.old.now c.args.now.now c.as_slice-signal-items.result.now
    c.loop-signal.signal-index _ c.of-woken.result c.loop-signal.woken c.rouse.new.woken
    c.loop-signal-test.true refl c.loop-signal.invariant c.in_ok-rouse.ensures

pub returns : goal.returns
returns c = λ a asleep.
    let x = c.args.self.now in
    woken_are a x.design.now x.states.now x.probes.now x.noted.now c.args.at c.args.old.now c.args.now.now c.args.touched.now c.of-woken.result
    c.in_ok-woken.woken asleep (subst (λ (ks : List ℕ). (k : ℕ) → IsOneOf k ks ↔ IsNoted x.noted.now.wakes c.args.at k) (sym c.of-woken.ensures) c.in_ok-due.ensures) c.requires.others
    (woken_again x.design.now.signals.items x.states.now x.probes.now x.noted.now c.args.old.now c.args.now.now c.args.touched.now (length c.args.touched.now) c.of-woken.result
    c.loop-signal.woken c.in_ok-woken.woken c.in_ok-woken.ensures
    (woken_end x.design.now.signals.items x.states.now x.probes.now x.noted.now c.args.old.now c.args.now.now c.as_slice-signal-items.result.now
    c.args.touched.now c.loop-signal.signal-index c.of-woken.result c.loop-signal.woken c.as_slice-signal-items.ensures.same
    c.loop-signal-test.false c.loop-signal.invariant))
    c.as_slice.ensures.rising
