use Rattle.std.proofs.Common.{arith, length, ap, List, sym, subst}
use Rattle.lh_types.specs.declared.part.Range.{Range}
use Rattle.lh_elab.specs.Probed.{AreProbes}
use Rattle.lh_kernel_states.specs.declared.state.InstState.{InstState}
use Rattle.lh_kernel.specs.Noted.{SensedWithin, IsNotedFor}
use Rattle.lh_kernel.proofs.Places.{as_many}
use Rattle.lh_kernel.proofs.FirstStates.{sensed_within}
use Rattle.lh_kernel.proofs.start.begin_all.Goals as goal

pub noted_for-requires-clause-few : goal.noted_for-requires-clause-few
noted_for-requires-clause-few c =
    omega (arith, c.requires.few, as_many c.args.m.now (length c.args.d.now.init) c.args.d.now.instances.items c.in_ok-states.states.items c.in_ok-states.ensures.fit, ap length c.deref.ensures.value)

pub noted_for-requires-clause-within : goal.noted_for-requires-clause-within
noted_for-requires-clause-within c =
    let w = sensed_within c.args.m.now (length c.args.d.now.init) c.args.d.now.instances.items c.in_ok-states.states.items c.in_ok-probes.probes.items
    c.in_ok-states.ensures.fit c.in_ok-probes.ensures.probes c.in_ok-probes.ensures.within in
    let P : List InstState → Type 0 = λ xs. SensedWithin (length c.args.d.now.init) xs c.in_ok-probes.probes.items in
    let Q : List (List Range) → Type 0 = λ xs. SensedWithin (length c.args.d.now.init) c.deref.result.now xs in
    subst Q (sym c.deref-2.ensures.value) (subst P (sym c.deref.ensures.value) w)

pub returns-clause-noted : goal.returns-clause-noted
returns-clause-noted c =
    let a = c.args.m.now in
    let is = c.args.d.now.instances.items in
    subst (λ (ss : List InstState). IsNotedFor a is c.args.d.now.signals.items ss c.in_ok-noted.noted) c.deref.ensures.value
    (c.in_ok-noted.ensures a (subst (AreProbes a is) (sym c.deref-2.ensures.value) c.in_ok-probes.ensures.probes))
