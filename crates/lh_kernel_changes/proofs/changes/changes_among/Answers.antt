use Rattle.std.proofs.Common.{arith, length, get_or, refl, ap}
use Rattle.lh_kernel_changes.proofs.Filled.{there, fits_there, known_at}
use Rattle.lh_kernel_changes.proofs.Shows.{picked_next, picked_are}
use Rattle.lh_kernel_changes.proofs.changes.changes_among.Goals as goal

pub bounds-signals-number : goal.bounds-signals-number
bounds-signals-number c =
    let known = known_at c.args.design.now.signals.items c.as_slice-number-items.result.now c.args.touched.now c.loop-number.number-index c.as_slice-number-items.ensures.same c.requires.known
    c.loop-number-test.true in
    omega (arith, known, ap length c.signals.ensures)

pub add_change-requires-clause-data : goal.add_change-requires-clause-data
add_change-requires-clause-data c =
    let f = fits_there (length c.args.design.now.init) c.args.design.now.signals.items c.signals.result.now (get_or c.as_slice-number-items.result.now c.loop-number.number-index 0)
    c.index-signals-number.result c.requires.fill c.signals.ensures
    (known_at c.args.design.now.signals.items c.as_slice-number-items.result.now c.args.touched.now c.loop-number.number-index c.as_slice-number-items.ensures.same c.requires.known
    c.loop-number-test.true) c.index-signals-number.is in
    f.0

pub add_change-requires-clause-in_old : goal.add_change-requires-clause-in_old
add_change-requires-clause-in_old c =
    let f = fits_there (length c.args.design.now.init) c.args.design.now.signals.items c.signals.result.now (get_or c.as_slice-number-items.result.now c.loop-number.number-index 0)
    c.index-signals-number.result c.requires.fill c.signals.ensures
    (known_at c.args.design.now.signals.items c.as_slice-number-items.result.now c.args.touched.now c.loop-number.number-index c.as_slice-number-items.ensures.same c.requires.known
    c.loop-number-test.true) c.index-signals-number.is in
    omega (arith, f.1, c.requires.old_width)

pub add_change-requires-clause-in_now : goal.add_change-requires-clause-in_now
add_change-requires-clause-in_now c =
    let f = fits_there (length c.args.design.now.init) c.args.design.now.signals.items c.signals.result.now (get_or c.as_slice-number-items.result.now c.loop-number.number-index 0)
    c.index-signals-number.result c.requires.fill c.signals.ensures
    (known_at c.args.design.now.signals.items c.as_slice-number-items.result.now c.args.touched.now c.loop-number.number-index c.as_slice-number-items.ensures.same c.requires.known
    c.loop-number-test.true) c.index-signals-number.is in
    omega (arith, f.1, c.requires.width)

pub loop-number-preserved : goal.loop-number-preserved
loop-number-preserved c =
    let e = there c.args.design.now.signals.items c.signals.result.now (get_or c.as_slice-number-items.result.now c.loop-number.number-index 0) c.index-signals-number.result c.signals.ensures
    (known_at c.args.design.now.signals.items c.as_slice-number-items.result.now c.args.touched.now c.loop-number.number-index c.as_slice-number-items.ensures.same c.requires.known
    c.loop-number-test.true) c.index-signals-number.is in
    picked_next c.loop-number.changes c.add_change.new.changes c.loop-number.number-index (get_or c.as_slice-number-items.result.now c.loop-number.number-index 0) c.index-signals-number.result
    c.as_slice-number-items.result.now c.args.design.now.signals.items c.args.old.now c.args.now.now
    c.loop-number-test.true refl e c.in_ok-add_change.ensures c.loop-number.invariant

pub returns : goal.returns
returns c =
    picked_are (length c.args.design.now.init) c.loop-number.changes c.loop-number.number-index c.as_slice-number-items.result.now c.args.touched.now c.args.design.now.signals.items c.args.old.now
    c.args.now.now c.as_slice-number-items.ensures.same
    c.requires.fill c.requires.old_width c.requires.width c.as_slice-number-items.ensures.rising c.requires.known c.requires.others c.loop-number-test.false c.loop-number.invariant
