use Rattle.std.proofs.Common.{ℕ, ◌+◌, List, get_or, refl, ap, sym, ◌∙◌, subst}
use Rattle.std.specs.List.{list_any}
use Rattle.std.proofs.lemmas.Option.{slice_get-get_or, slice_get_within}
use Rattle.lh_types.specs.declared.part.Range.{Range}
use Rattle.lh_unit.specs.World.{bit_numbers, bit_differs}
use Rattle.lh_kernel.proofs.WokenInstances.{RousedTo, sensed_item, read_within, roused_there, roused_more, roused_not}
use Rattle.lh_kernel.proofs.woken.Asleep.rouse.Goals as goal
use Rattle.lh_kernel.proofs.woken.Asleep.rouse.Goals.{then-differs_with+in_ok-add, else-differs_with}

pub bounds-self-instance : goal.bounds-self-instance
bounds-self-instance c =
    let x = c.args.self.now in
    let w = sensed_item c.requires.asleep.0 x.design.now x.states.now x.probes.now x.noted.now c.requires.asleep.1 c.requires.asleep.2 c.args.signal
    c.sensing-instance-items.result.now c.loop-instance.instance-index _ c.sensing-instance-items.ensures.same c.loop-instance-test.true refl in
    slice_get_within x.probes.now _ w.probed w.is_probed

pub bounds-self-instance-in-loop-instance : goal.bounds-self-instance-in-loop-instance
bounds-self-instance-in-loop-instance c =
    let x = c.args.self.now in
    let w = sensed_item c.requires.asleep.0 x.design.now x.states.now x.probes.now x.noted.now c.requires.asleep.1 c.requires.asleep.2 c.args.signal
    c.sensing-instance-items.result.now c.loop-instance.instance-index _ c.sensing-instance-items.ensures.same c.loop-instance-test.true refl in
    slice_get_within x.states.now _ w.state w.is_kept

pub differs_with-requires-clause-in_old : goal.differs_with-requires-clause-in_old
differs_with-requires-clause-in_old c =
    let x = c.args.self.now in
    let y = get_or c.sensing-instance-items.result.now c.loop-instance.instance-index 0 in
    let w = sensed_item c.requires.asleep.0 x.design.now x.states.now x.probes.now x.noted.now c.requires.asleep.1 c.requires.asleep.2 c.args.signal
    c.sensing-instance-items.result.now c.loop-instance.instance-index _ c.sensing-instance-items.ensures.same c.loop-instance-test.true refl in
    let s = get_or x.states.now y c.index-self-instance-in-loop-instance.result in
    let rs = get_or x.probes.now y c.index-self-instance.result in
    read_within x.design.now x.states.now x.probes.now y s rs c.senses-parts.result.now c.args.old.now w (slice_get-get_or x.states.now y _ (slice_get_within x.states.now _ w.state w.is_kept))
    (slice_get-get_or x.probes.now y _ (slice_get_within x.probes.now _ w.probed w.is_probed)) c.senses-parts.ensures c.requires.old_width

pub differs_with-requires-clause-in_now : goal.differs_with-requires-clause-in_now
differs_with-requires-clause-in_now c =
    let x = c.args.self.now in
    let y = get_or c.sensing-instance-items.result.now c.loop-instance.instance-index 0 in
    let w = sensed_item c.requires.asleep.0 x.design.now x.states.now x.probes.now x.noted.now c.requires.asleep.1 c.requires.asleep.2 c.args.signal
    c.sensing-instance-items.result.now c.loop-instance.instance-index _ c.sensing-instance-items.ensures.same c.loop-instance-test.true refl in
    let s = get_or x.states.now y c.index-self-instance-in-loop-instance.result in
    let rs = get_or x.probes.now y c.index-self-instance.result in
    read_within x.design.now x.states.now x.probes.now y s rs c.senses-parts.result.now c.args.now.now w (slice_get-get_or x.states.now y _ (slice_get_within x.states.now _ w.state w.is_kept))
    (slice_get-get_or x.probes.now y _ (slice_get_within x.probes.now _ w.probed w.is_probed)) c.senses-parts.ensures c.requires.width

pub loop-instance-preserved-then-has : goal.loop-instance-preserved-then-has
loop-instance-preserved-then-has c =
    let x = c.args.self.now in
    roused_there x.states.now x.probes.now c.args.old.now c.args.now.now c.sensing-instance-items.result.now c.loop-instance.instance-index _ c.args.woken.now
    c.loop-instance.woken c.loop-instance-test.true refl (c.has.ensures.0 c.if-has.true) c.loop-instance.invariant

pub loop-instance-preserved : goal.loop-instance-preserved
loop-instance-preserved c =
    let x = c.args.self.now in
    let items = c.sensing-instance-items.result.now in
    let i = c.loop-instance.instance-index in
    let w = sensed_item c.requires.asleep.0 x.design.now x.states.now x.probes.now x.noted.now c.requires.asleep.1 c.requires.asleep.2 c.args.signal
    items i _ c.sensing-instance-items.ensures.same c.loop-instance-test.true refl in
    let s = get_or x.states.now (get_or items i 0) c.index-self-instance-in-loop-instance.result in
    let rs = get_or x.probes.now (get_or items i 0) c.index-self-instance.result in
    let p = slice_get-get_or x.states.now (get_or items i 0) c.index-self-instance-in-loop-instance.result (slice_get_within x.states.now _ w.state w.is_kept) in
    let q = slice_get-get_or x.probes.now (get_or items i 0) c.index-self-instance.result (slice_get_within x.probes.now _ w.probed w.is_probed) in
    let e = sym (ap (λ (parts : List Range). list_any (bit_differs c.args.old.now c.args.now.now) (bit_numbers parts)) c.senses-parts.ensures) ∙ sym c.differs_with.ensures in
    let P : List ℕ → Type 0 = RousedTo x.states.now x.probes.now c.args.old.now c.args.now.now items (i + 1) c.args.woken.now in
    elim c.if-differs_with.branch [
      | then-differs_with+in_ok-add v ↦
          subst P (sym v.woken-is)
          (roused_more x.states.now x.probes.now c.args.old.now c.args.now.now items i (get_or items i 0) s rs c.args.woken.now c.loop-instance.woken
          v.add.new.self c.loop-instance-test.true refl p q (e ∙ v.if-differs_with.true) c.loop-instance.invariant v.in_ok-add.ensures.has)
      | else-differs_with v ↦
          subst P (sym v.woken-is)
          (roused_not x.states.now x.probes.now c.args.old.now c.args.now.now items i (get_or items i 0) s rs c.args.woken.now c.loop-instance.woken
          c.loop-instance-test.true refl p q (e ∙ v.if-differs_with.false) c.loop-instance.invariant)
    ]
