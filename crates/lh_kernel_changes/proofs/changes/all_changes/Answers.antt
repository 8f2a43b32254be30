use Rattle.std.proofs.Common.{arith, length, ap}
use Rattle.lh_kernel_changes.proofs.Filled.{many_le, fits_there}
use Rattle.lh_kernel_changes.proofs.changes.all_changes.Goals as goal

pub number_of-requires : goal.number_of-requires
number_of-requires c =
    let many = many_le 0 (length c.args.design.now.init) c.args.design.now.signals.items c.requires.fill in
    let same = ap length c.signals-signal-items.ensures in
    omega (arith, many, same, c.loop-number-test.true, c.requires.width)

pub change_of-requires-clause-data : goal.change_of-requires-clause-data
change_of-requires-clause-data c =
    let same = ap length c.signals-signal-items.ensures in
    (fits_there (length c.args.design.now.init) c.args.design.now.signals.items c.signals-signal-items.result.now c.loop-number.number c.signal-item.result c.requires.fill
    c.signals-signal-items.ensures (omega (arith, same, c.loop-number-test.true)) c.signal-item.is).0

pub change_of-requires-clause-within : goal.change_of-requires-clause-within
change_of-requires-clause-within c =
    let same = ap length c.signals-signal-items.ensures in
    let f = fits_there (length c.args.design.now.init) c.args.design.now.signals.items c.signals-signal-items.result.now c.loop-number.number c.signal-item.result c.requires.fill
    c.signals-signal-items.ensures (omega (arith, same, c.loop-number-test.true)) c.signal-item.is in
    omega (arith, f.1, c.requires.width)
