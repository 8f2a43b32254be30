use Rattle.std.proofs.Common.{◌≡◌, ℕ, List, None, ◌<◌, ◌≤◌, length, slice_index_or, refl, ap, sym, subst, arith, ◌∙◌}
use Rattle.std.proofs.lemmas.List.{take_all}
use Rattle.std.proofs.lemmas.Option.{slice_get_read}
use Rattle.lh_types.specs.Raised.{raised}
use Rattle.lh_elab.specs.Answer.{InstanceIs}
use Rattle.lh_kernel.specs.Ran.{AllRan}
use Rattle.lh_kernel.proofs.InstanceRuns.{in-place, known-at, turn-on, turn-off, turn-sound, tally-more, tally-off, tally-some, on-err}
use Rattle.lh_kernel.proofs.Places.{as_many, fit_at}
use Rattle.lh_kernel.proofs.run.run_all.Goals as goal
use Rattle.lh_unit.proofs.Lists.{Each-get}

pub bounds-instances-k : goal.bounds-instances-k
bounds-instances-k g c =
    let h = known-at c.args.woken.now c.loop-instance.instance-index c.args.design.now.instances.items c.loop-instance-test.true c.requires.known in
    subst (λ (n : ℕ). slice_index_or c.args.woken.now c.loop-instance.instance-index 0 < n) (sym (ap length c.instances.ensures)) h

pub bounds-states-k : goal.bounds-states-k
bounds-states-k g c =
    let h = known-at c.args.woken.now c.loop-instance.instance-index c.args.design.now.instances.items c.loop-instance-test.true c.requires.known in
    subst (λ (n : ℕ). slice_index_or c.args.woken.now c.loop-instance.instance-index 0 < n)
    (sym (as_many c.args.m.now (length c.args.now.now) c.args.design.now.instances.items c.args.states.now c.requires.fit)) h

pub run_instance-requires-clause-instance : goal.run_instance-requires-clause-instance
run_instance-requires-clause-instance g c =
    let is = c.args.design.now.instances.items in
    let k = slice_index_or c.args.woken.now c.loop-instance.instance-index 0 in
    let i = c.index-instances-k.result in
    let h = known-at c.args.woken.now c.loop-instance.instance-index is c.loop-instance-test.true c.requires.known in
    let e = in-place is c.instances.result.now k i c.instances.ensures h c.index-instances-k.is in
    subst (λ (w : ℕ). InstanceIs c.args.m.now w i) (sym c.requires.width) (Each-get (InstanceIs c.args.m.now (length c.args.design.now.init)) is k i c.requires.design.fits e)

pub run_instance-requires-clause-fits : goal.run_instance-requires-clause-fits
run_instance-requires-clause-fits g c =
    let is = c.args.design.now.instances.items in
    let ss = c.args.states.now in
    let k = slice_index_or c.args.woken.now c.loop-instance.instance-index 0 in
    let h = known-at c.args.woken.now c.loop-instance.instance-index is c.loop-instance-test.true c.requires.known in
    let e = in-place is c.instances.result.now k c.index-instances-k.result c.instances.ensures h c.index-instances-k.is in
    let long = as_many c.args.m.now (length c.args.now.now) is ss c.requires.fit in
    let f = slice_get_read ss (length ss) k c.index-states-k.result refl (subst (λ (n : ℕ). k < n) (sym long) h) c.index-states-k.is in
    fit_at c.args.m.now (length c.args.now.now) is ss k c.index-instances-k.result c.index-states-k.result c.requires.fit e f

pub returns-in_err-push-in-Ok-clause-err : goal.returns-in_err-push-in-Ok-clause-err
returns-in_err-push-in-Ok-clause-err g c =
    on-err c.from_residual.result ((n : ℕ) × (n ≤ length c.args.woken.now) × (g.T.Tally.count c.run_instance.new.tally ≡ raised (g.T.Tally.count c.args.tally.now) n))
    (tally-some c.args.woken.now c.loop-instance.instance-index (g.T.Tally.count c.args.tally.now) (g.T.Tally.count c.loop-instance.tally)
    (g.T.Tally.count c.run_instance.new.tally) c.loop-instance-test.true c.loop-instance.invariant.tally c.run_instance.ensures.tick)

pub returns-in-Err-OutOfMemory-clause-err : goal.returns-in-Err-OutOfMemory-clause-err
returns-in-Err-OutOfMemory-clause-err g c =
    tally-some c.args.woken.now c.loop-instance.instance-index (g.T.Tally.count c.args.tally.now) (g.T.Tally.count c.loop-instance.tally)
    (g.T.Tally.count c.run_instance.new.tally) c.loop-instance-test.true c.loop-instance.invariant.tally c.run_instance.ensures.tick

pub returns-in-Err-Runaway-clause-ran : goal.returns-in-Err-Runaway-clause-ran
returns-in-Err-Runaway-clause-ran g c = λ ps q.
    let m = c.args.m.now in
    let is = c.args.design.now.instances.items in
    let ss = c.args.states.now in
    let j = c.loop-instance.instance-index in
    let k = slice_index_or c.args.woken.now j 0 in
    let i = c.index-instances-k.result in
    let s = c.index-states-k.result in
    let h = known-at c.args.woken.now j is c.loop-instance-test.true c.requires.known in
    let e = in-place is c.instances.result.now k i c.instances.ensures h c.index-instances-k.is in
    let f = slice_get_read ss (length ss) k s refl (subst (λ (n : ℕ). k < n) (sym (as_many m (length c.args.now.now) is ss c.requires.fit)) h) c.index-states-k.is in
    turn-off m c.args.now.now c.args.at is ss ps c.args.woken.now c.loop-instance.acts.items j i s c.loop-instance-test.true e f q
    (λ p w. rw c.in-Err-Runaway.field-0-is at c.in-Err-Runaway.ensures.act p w)
    (c.loop-instance.invariant.ran ps q)

pub returns-in-Err-Runaway-clause-tally : goal.returns-in-Err-Runaway-clause-tally
returns-in-Err-Runaway-clause-tally g c =
    tally-off c.args.woken.now c.loop-instance.instance-index (g.T.Tally.count c.args.tally.now) (g.T.Tally.count c.loop-instance.tally)
    (g.T.Tally.count c.run_instance.new.tally) c.loop-instance-test.true c.requires.rising c.loop-instance.invariant.tally c.run_instance.ensures.tick

pub loop-instance-preserved : goal.loop-instance-preserved
loop-instance-preserved g c =
    let m = c.args.m.now in
    let is = c.args.design.now.instances.items in
    let ss = c.args.states.now in
    let j = c.loop-instance.instance-index in
    let k = slice_index_or c.args.woken.now j 0 in
    let i = c.index-instances-k.result in
    let s = c.index-states-k.result in
    let x = c.in-Ok.act in
    let h = known-at c.args.woken.now j is c.loop-instance-test.true c.requires.known in
    let e = in-place is c.instances.result.now k i c.instances.ensures h c.index-instances-k.is in
    let f = slice_get_read ss (length ss) k s refl (subst (λ (n : ℕ). k < n) (sym (as_many m (length c.args.now.now) is ss c.requires.fit)) h) c.index-states-k.is in
    record {
      ran = λ ps q. turn-on m c.args.now.now c.args.at is ss ps c.args.woken.now c.loop-instance.acts.items c.push.new.self.items j i s x
          c.loop-instance-test.true e f q (λ p w. c.in-Ok.ensures.act p w) c.in_ok-push-in-Ok.ensures.items (c.loop-instance.invariant.ran ps q);
      sound = turn-sound m (length c.args.now.now) c.args.at is c.loop-instance.acts.items c.push.new.self.items k i x e c.in-Ok.ensures.sound
          c.in_ok-push-in-Ok.ensures.items c.loop-instance.invariant.sound;
      tally = tally-more (g.T.Tally.count c.args.tally.now) (g.T.Tally.count c.loop-instance.tally) (g.T.Tally.count c.run_instance.new.tally) j
          c.loop-instance.invariant.tally c.run_instance.ensures.tick;
    }

pub returns-clause-ran : goal.returns-clause-ran
returns-clause-ran g c = λ ps q.
    subst (λ (ks : List ℕ). AllRan c.args.m.now c.args.now.now c.args.at c.args.design.now.instances.items ps ks c.loop-instance.acts.items None)
    (take_all c.loop-instance.instance-index c.args.woken.now c.loop-instance-test.false) (c.loop-instance.invariant.ran ps q)

pub returns-clause-tally : goal.returns-clause-tally
returns-clause-tally g c =
    let e : c.loop-instance.instance-index ≡ length c.args.woken.now = omega arith in
    c.loop-instance.invariant.tally ∙ ap (raised (g.T.Tally.count c.args.tally.now)) e
