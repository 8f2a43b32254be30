use Rattle.std.proofs.Common.{◌<◌, length, get_or, ◌∙◌, arith}
use Rattle.lh_wave.proofs.ChangedLemmas.{putting_start, putting_over, putting_on, putting_end, taken, moving_many, moving_none, moving_end}
use Rattle.lh_wave.proofs.changed.put_new.Goals as goal

pub loop-k-preserved-in_default : goal.loop-k-preserved-in_default
loop-k-preserved-in_default c =
    let inside : get_or c.args.numbers.now c.loop-k.k-index 0 < length c.loop-k.values.items =
    omega (arith, c.requires.within c.loop-k.k-index 0 c.loop-k-test.true, moving_many _ _ _ _ _ _ c.loop-k.invariant.moving c.requires.level, c.loop-k.invariant.moving.level) in
    putting_over _ _ _ _ _ _ _ _ _ c.loop-k.invariant (taken _ _ _ _ inside c.index_mut.ensures.value c.take.ensures.value ∙ c.in_default.is) c.take.ensures.after

pub loop-k-preserved : goal.loop-k-preserved
loop-k-preserved c =
    let inside : get_or c.args.numbers.now c.loop-k.k-index 0 < length c.loop-k.written.items =
    omega (arith, c.requires.within c.loop-k.k-index 0 c.loop-k-test.true, moving_many _ _ _ _ _ _ c.loop-k.invariant.moving c.requires.level) in
    let within : get_or c.args.numbers.now c.loop-k.k-index 0 < length c.loop-k.values.items = omega (arith, c.loop-k.invariant.moving.level) in
    putting_on _ _ _ _ _ _ _ _ _ _ _ _ c.loop-k.invariant c.requires.rising inside (taken _ _ _ _ within c.index_mut.ensures.value c.take.ensures.value ∙ c.in-Some.is) c.take.ensures.after
    c.index.ensures c.put_if_differs.ensures

pub returns-clause-text : goal.returns-clause-text
returns-clause-text c = putting_end _ _ _ _ _ _ _ _ c.loop-k.invariant c.loop-k-test.false

pub returns-clause-written : goal.returns-clause-written
returns-clause-written c = moving_end _ _ _ _ _ c.loop-k.invariant.moving c.loop-k-test.false

pub loop-k-init : goal.loop-k-init
loop-k-init c = putting_start c.args.numbers.now c.args.to.now c.args.values.now.items c.args.written.now.items c.requires.listed c.requires.level

pub returns-clause-level : goal.returns-clause-level
returns-clause-level c = c.loop-k.invariant.moving.level

pub returns-clause-none : goal.returns-clause-none
returns-clause-none c = moving_none _ _ _ _ _ c.loop-k.invariant.moving c.loop-k-test.false
