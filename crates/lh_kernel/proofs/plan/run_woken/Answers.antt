use Rattle.std.proofs.Common.{List, length, refl, sym, subst}
use Rattle.lh_kernel_states.specs.declared.state.InstState.{InstState}
use Rattle.lh_kernel.specs.States.{StatesFit}
use Rattle.lh_kernel.specs.Phases.{awake_in}
use Rattle.lh_kernel.proofs.Next.{none_by, some_by}
use Rattle.lh_kernel.proofs.LookedBits.{looked_width, looked_fit, all_awake, some_awake, rises_awake, known_awake, ran_by, tally_by, err_by, are_asleep}
use Rattle.lh_kernel.proofs.NotedInstances.{on_err}
use Rattle.lh_kernel.proofs.Tallies.{rises_none}
use Rattle.lh_kernel.proofs.plan.run_woken.Goals as goal

pub run_all-requires-clause-width : goal.run_all-requires-clause-width
run_all-requires-clause-width g c =
    looked_width c.args.x.now c.args.at c.args.touched.now c.requires.looked

pub run_all-requires-clause-fit : goal.run_all-requires-clause-fit
run_all-requires-clause-fit g c =
    subst (λ (ss : List InstState). StatesFit c.args.x.now.«module».now (length c.args.x.now.looked) c.args.x.now.design.instances.items ss)
    (sym c.deref.ensures.value) (looked_fit c.args.x.now c.args.at c.args.touched.now c.requires.looked)

pub run_all-requires-clause-rising : goal.run_all-requires-clause-rising
run_all-requires-clause-rising g c =
    let e = all_awake c.args.x.now c.args.at c.args.touched.now c.deref-then-is_none.result.now c.in_ok-all.all.items c.requires.looked
    (none_by c.args.x.now.last c.is_none.result c.is_none.ensures c.if-is_none.true) c.deref-then-is_none.ensures.value c.in_ok-all.ensures in
    rises_awake c.args.x.now c.args.at c.deref-then-is_none.result.now e

pub run_all-requires-clause-known : goal.run_all-requires-clause-known
run_all-requires-clause-known g c =
    let e = all_awake c.args.x.now c.args.at c.args.touched.now c.deref-then-is_none.result.now c.in_ok-all.all.items c.requires.looked
    (none_by c.args.x.now.last c.is_none.result c.is_none.ensures c.if-is_none.true) c.deref-then-is_none.ensures.value c.in_ok-all.ensures in
    known_awake c.args.x.now c.args.at c.deref-then-is_none.result.now e

pub woken-requires-clause-width : goal.woken-requires-clause-width
woken-requires-clause-width g c =
    looked_width c.args.x.now c.args.at c.args.touched.now c.requires.looked

pub run_all-requires-else-is_none-clause-width : goal.run_all-requires-else-is_none-clause-width
run_all-requires-else-is_none-clause-width g c =
    looked_width c.args.x.now c.args.at c.args.touched.now c.requires.looked

pub run_all-requires-else-is_none-clause-fit : goal.run_all-requires-else-is_none-clause-fit
run_all-requires-else-is_none-clause-fit g c =
    subst (λ (ss : List InstState). StatesFit c.args.x.now.«module».now (length c.args.x.now.looked) c.args.x.now.design.instances.items ss)
    (sym c.deref-else-is_none-3.ensures.value) (looked_fit c.args.x.now c.args.at c.args.touched.now c.requires.looked)

pub run_all-requires-else-is_none-clause-known : goal.run_all-requires-else-is_none-clause-known
run_all-requires-else-is_none-clause-known g c =
    let l = some_by c.args.x.now.last c.is_none.result c.is_none.ensures c.if-is_none.false in
    let e = some_awake c.args.x.now c.args.at l.0 c.args.touched.now c.as_slice.result.now c.in_ok-woken.woken c.deref-else-is_none.result.now
    c.deref-else-is_none-2.result.now c.requires.looked l.1 c.as_slice.ensures.same c.deref-else-is_none.ensures.value
    c.deref-else-is_none-2.ensures.value c.in_ok-woken.ensures in
    known_awake c.args.x.now c.args.at c.as_slice.result.now e

pub returns-in_ok-all-clause-ran : goal.returns-in_ok-all-clause-ran
returns-in_ok-all-clause-ran g c =
    let e = all_awake c.args.x.now c.args.at c.args.touched.now c.deref-then-is_none.result.now c.in_ok-all.all.items c.requires.looked
    (none_by c.args.x.now.last c.is_none.result c.is_none.ensures c.if-is_none.true) c.deref-then-is_none.ensures.value c.in_ok-all.ensures in
    ran_by c.args.x.now.«module».now c.args.x.now.looked c.args.at c.args.x.now.design.instances.items c.args.x.now.states.items c.deref.result.now
    (awake_in c.args.x.now c.args.at) c.deref-then-is_none.result.now c.run_all.result c.deref.ensures.value e c.run_all.ensures.ran

pub returns-in_ok-all-clause-tally : goal.returns-in_ok-all-clause-tally
returns-in_ok-all-clause-tally g c =
    let e = all_awake c.args.x.now c.args.at c.args.touched.now c.deref-then-is_none.result.now c.in_ok-all.all.items c.requires.looked
    (none_by c.args.x.now.last c.is_none.result c.is_none.ensures c.if-is_none.true) c.deref-then-is_none.ensures.value c.in_ok-all.ensures in
    tally_by (g.T.Tally.count c.args.tally.now) (g.T.Tally.count c.run_all.new.tally) (awake_in c.args.x.now c.args.at) c.deref-then-is_none.result.now c.run_all.result e c.run_all.ensures.tally

pub returns-in_ok-all-clause-err_tally : goal.returns-in_ok-all-clause-err_tally
returns-in_ok-all-clause-err_tally g c =
    let e = all_awake c.args.x.now c.args.at c.args.touched.now c.deref-then-is_none.result.now c.in_ok-all.all.items c.requires.looked
    (none_by c.args.x.now.last c.is_none.result c.is_none.ensures c.if-is_none.true) c.deref-then-is_none.ensures.value c.in_ok-all.ensures in
    err_by (g.T.Tally.count c.args.tally.now) (g.T.Tally.count c.run_all.new.tally) (awake_in c.args.x.now c.args.at) c.deref-then-is_none.result.now c.run_all.result e c.run_all.ensures.err

pub returns-in_ok-woken-clause-ran : goal.returns-in_ok-woken-clause-ran
returns-in_ok-woken-clause-ran g c =
    let l = some_by c.args.x.now.last c.is_none.result c.is_none.ensures c.if-is_none.false in
    let e = some_awake c.args.x.now c.args.at l.0 c.args.touched.now c.as_slice.result.now c.in_ok-woken.woken c.deref-else-is_none.result.now
    c.deref-else-is_none-2.result.now c.requires.looked l.1 c.as_slice.ensures.same c.deref-else-is_none.ensures.value
    c.deref-else-is_none-2.ensures.value c.in_ok-woken.ensures in
    ran_by c.args.x.now.«module».now c.args.x.now.looked c.args.at c.args.x.now.design.instances.items c.args.x.now.states.items
    c.deref-else-is_none-3.result.now (awake_in c.args.x.now c.args.at) c.as_slice.result.now c.run_all-else-is_none.result
    c.deref-else-is_none-3.ensures.value e c.run_all-else-is_none.ensures.ran

pub returns-in_ok-woken-clause-tally : goal.returns-in_ok-woken-clause-tally
returns-in_ok-woken-clause-tally g c =
    let l = some_by c.args.x.now.last c.is_none.result c.is_none.ensures c.if-is_none.false in
    let e = some_awake c.args.x.now c.args.at l.0 c.args.touched.now c.as_slice.result.now c.in_ok-woken.woken c.deref-else-is_none.result.now
    c.deref-else-is_none-2.result.now c.requires.looked l.1 c.as_slice.ensures.same c.deref-else-is_none.ensures.value
    c.deref-else-is_none-2.ensures.value c.in_ok-woken.ensures in
    tally_by (g.T.Tally.count c.args.tally.now) (g.T.Tally.count c.run_all-else-is_none.new.tally) (awake_in c.args.x.now c.args.at)
    c.as_slice.result.now c.run_all-else-is_none.result e c.run_all-else-is_none.ensures.tally

pub returns-in_ok-woken-clause-err_tally : goal.returns-in_ok-woken-clause-err_tally
returns-in_ok-woken-clause-err_tally g c =
    let l = some_by c.args.x.now.last c.is_none.result c.is_none.ensures c.if-is_none.false in
    let e = some_awake c.args.x.now c.args.at l.0 c.args.touched.now c.as_slice.result.now c.in_ok-woken.woken c.deref-else-is_none.result.now
    c.deref-else-is_none-2.result.now c.requires.looked l.1 c.as_slice.ensures.same c.deref-else-is_none.ensures.value
    c.deref-else-is_none-2.ensures.value c.in_ok-woken.ensures in
    err_by (g.T.Tally.count c.args.tally.now) (g.T.Tally.count c.run_all-else-is_none.new.tally) (awake_in c.args.x.now c.args.at)
    c.as_slice.result.now c.run_all-else-is_none.result e c.run_all-else-is_none.ensures.err

pub returns-in_err-all-clause-err_tally : goal.returns-in_err-all-clause-err_tally
returns-in_err-all-clause-err_tally g c =
    on_err c.from_residual.result (rises_none (awake_in c.args.x.now c.args.at) (g.T.Tally.count c.args.tally.now) (g.T.Tally.count c.args.tally.now) refl)

pub returns-in_err-woken-clause-err_tally : goal.returns-in_err-woken-clause-err_tally
returns-in_err-woken-clause-err_tally g c =
    on_err c.from_residual-in_err-woken.result (rises_none (awake_in c.args.x.now c.args.at) (g.T.Tally.count c.args.tally.now) (g.T.Tally.count c.args.tally.now) refl)

pub woken-requires-clause-asleep : goal.woken-requires-clause-asleep
woken-requires-clause-asleep g c = (
  c.args.x.now.«module».now,
  are_asleep c.args.x.now c.args.at c.args.touched.now c.deref-else-is_none.result.now c.deref-else-is_none-2.result.now c.requires.looked
      c.deref-else-is_none.ensures.value c.deref-else-is_none-2.ensures.value,
)
