use Rattle.std.proofs.Common.{arith, length, get_or, refl, ap}
use Rattle.lh_kernel_changes.proofs.Filled.{there, fits_there, known_at}
use Rattle.lh_kernel_changes.proofs.Undone.{put_next, put_all, undone_by}
use Rattle.lh_kernel_changes.proofs.undo.put_signals.Goals as goal

pub bounds-signals-number : goal.bounds-signals-number
bounds-signals-number c =
    let known = known_at c.args.design.now.signals.items c.as_slice-number-items.result.now c.args.touched.now c.loop-number.number-index c.as_slice-number-items.ensures.same c.requires.known
    c.loop-number-test.true in
    omega (arith, known, ap length c.signals.ensures)

pub bits-requires : goal.bits-requires
bits-requires c =
    let f = fits_there (length c.args.design.now.init) c.args.design.now.signals.items c.signals.result.now (get_or c.as_slice-number-items.result.now c.loop-number.number-index 0)
    c.index-signals-number.result c.requires.fill c.signals.ensures
    (known_at c.args.design.now.signals.items c.as_slice-number-items.result.now c.args.touched.now c.loop-number.number-index c.as_slice-number-items.ensures.same c.requires.known
    c.loop-number-test.true) c.index-signals-number.is in
    f.0

pub put_part-requires-clause-within : goal.put_part-requires-clause-within
put_part-requires-clause-within c =
    let f = fits_there (length c.args.design.now.init) c.args.design.now.signals.items c.signals.result.now (get_or c.as_slice-number-items.result.now c.loop-number.number-index 0)
    c.index-signals-number.result c.requires.fill c.signals.ensures
    (known_at c.args.design.now.signals.items c.as_slice-number-items.result.now c.args.touched.now c.loop-number.number-index c.as_slice-number-items.ensures.same c.requires.known
    c.loop-number-test.true) c.index-signals-number.is in
    omega (arith, f.1, c.requires.width, c.loop-number.invariant.len, c.bits.ensures)

pub put_part-requires-clause-from_within : goal.put_part-requires-clause-from_within
put_part-requires-clause-from_within c =
    let f = fits_there (length c.args.design.now.init) c.args.design.now.signals.items c.signals.result.now (get_or c.as_slice-number-items.result.now c.loop-number.number-index 0)
    c.index-signals-number.result c.requires.fill c.signals.ensures
    (known_at c.args.design.now.signals.items c.as_slice-number-items.result.now c.args.touched.now c.loop-number.number-index c.as_slice-number-items.ensures.same c.requires.known
    c.loop-number-test.true) c.index-signals-number.is in
    omega (arith, f.1, c.requires.from_width, c.bits.ensures)

pub loop-number-preserved : goal.loop-number-preserved
loop-number-preserved c =
    let e = there c.args.design.now.signals.items c.signals.result.now (get_or c.as_slice-number-items.result.now c.loop-number.number-index 0) c.index-signals-number.result c.signals.ensures
    (known_at c.args.design.now.signals.items c.as_slice-number-items.result.now c.args.touched.now c.loop-number.number-index c.as_slice-number-items.ensures.same c.requires.known
    c.loop-number-test.true) c.index-signals-number.is in
    put_next (length c.args.design.now.init) c.args.design.now.signals.items c.as_slice-number-items.result.now c.loop-number.number-index
    (get_or c.as_slice-number-items.result.now c.loop-number.number-index 0) c.bits.result c.index-signals-number.result c.args.now.now c.args.from.now c.loop-number.now c.put_part.new.self
    c.requires.fill c.loop-number-test.true refl e c.requires.from_width c.requires.width c.bits.ensures c.put_part.ensures c.loop-number.invariant

pub returns-clause-undone : goal.returns-clause-undone
returns-clause-undone c =
    undone_by (length c.args.design.now.init) c.args.design.now.signals.items c.as_slice-number-items.result.now c.args.touched.now c.loop-number.number-index c.args.now.now c.args.from.now
    c.loop-number.now c.as_slice-number-items.ensures.same c.requires.fill
    c.requires.from_width c.requires.width c.loop-number-test.false c.loop-number.invariant

pub returns-clause-put : goal.returns-clause-put
returns-clause-put c = (put_all c.args.design.now.signals.items c.as_slice-number-items.result.now c.args.touched.now c.loop-number.number-index c.args.now.now c.args.from.now c.loop-number.now
    c.as_slice-number-items.ensures.same c.loop-number-test.false c.loop-number.invariant).0

pub returns-clause-others : goal.returns-clause-others
returns-clause-others c = (put_all c.args.design.now.signals.items c.as_slice-number-items.result.now c.args.touched.now c.loop-number.number-index c.args.now.now c.args.from.now c.loop-number.now
    c.as_slice-number-items.ensures.same c.loop-number-test.false c.loop-number.invariant).1
