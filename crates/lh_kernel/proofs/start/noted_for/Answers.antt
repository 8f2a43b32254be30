use Rattle.std.proofs.Common.{arith, length, refl, ◌∙◌}
use Rattle.std.proofs.lemmas.Option.{slice_get_read}
use Rattle.lh_kernel.proofs.FirstStates.{noted_none, noted_more, noted_all, as_long, within_read}
use Rattle.lh_kernel.proofs.start.noted_for.Goals as goal

pub loop-number-init : goal.loop-number-init
loop-number-init c = noted_none c.args.d.now.signals.items c.args.states.now c.args.probes.now _ (c.in_ok-new.ensures.len ∙ c.signal_count.ensures) c.in_ok-new.ensures.none c.new-2.ensures

pub bounds-probes-number : goal.bounds-probes-number
bounds-probes-number c = omega (arith, as_long (length c.args.d.now.init) c.args.states.now c.args.probes.now c.requires.within, c.loop-number-test.true)

pub note_instance-requires-clause-within : goal.note_instance-requires-clause-within
note_instance-requires-clause-within c =
    within_read (length c.args.d.now.init) c.args.states.now c.args.probes.now c.loop-number.number c.index-states-number.result
    c.index-probes-number.result c.requires.within c.loop-number-test.true c.index-states-number.is c.index-probes-number.is

pub loop-number-preserved : goal.loop-number-preserved
loop-number-preserved c =
    let x = c.in_ok-note_instance.ensures in
    noted_more c.args.d.now.signals.items c.args.states.now c.args.probes.now c.loop-number.number c.index-states-number.result
    c.index-probes-number.result x.0 _ c.loop-number.noted c.note_instance.new.noted
    (slice_get_read c.args.states.now (length c.args.states.now) c.loop-number.number c.index-states-number.result refl c.loop-number-test.true c.index-states-number.is)
    (slice_get_read c.args.probes.now (length c.args.probes.now) c.loop-number.number c.index-probes-number.result refl
    (omega (arith, as_long (length c.args.d.now.init) c.args.states.now c.args.probes.now c.requires.within, c.loop-number-test.true)) c.index-probes-number.is)
    x.1 refl c.loop-number.invariant x.2

pub returns : goal.returns
returns c = λ a p. noted_all c.args.d.now.signals.items c.args.states.now c.args.probes.now a c.args.d.now.instances.items c.loop-number.number
    c.loop-number.noted (omega (arith, c.loop-number-test.false)) c.loop-number.invariant p
