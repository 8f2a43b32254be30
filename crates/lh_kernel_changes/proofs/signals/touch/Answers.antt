use Rattle.std.proofs.Common.{arith, length, ◌-◌}
use Rattle.lh_kernel_changes.proofs.Filled.{number_le}
use Rattle.lh_kernel_changes.proofs.TouchedSignals.{entered_more, row_entered}
use Rattle.lh_kernel_changes.proofs.signals.touch.Goals as goal

pub overflow_add-signal-end : goal.overflow_add-signal-end
overflow_add-signal-end c =
    let n = number_le 0 (length c.args.design.now.init) c.args.design.now.signals.items c.signal_near-last.result (c.end_of-end.result - 1) c.requires.fill c.signal_near-last.ensures in
    omega (arith, n)

pub loop-signal-preserved : goal.loop-signal-preserved
loop-signal-preserved c = entered_more c.args.touched.now c.loop-signal.touched c.add.new.self c.signal_near-first.result c.loop-signal.signal c.loop-signal.auto.signal c.loop-signal.invariant
    c.in_ok-add.ensures.has

pub returns : goal.returns
returns c =
    row_entered (length c.args.design.now.init) c.args.design.now.signals.items c.args.lo c.args.len c.end_of-end.result c.signal_near-first.result c.signal_near-last.result c.loop-signal.signal
    c.args.touched.now c.loop-signal.touched
    c.requires.fill (omega arith) c.end_of-end.ensures c.signal_near-first.ensures c.signal_near-last.ensures c.loop-signal-test.false c.loop-signal.auto.signal-end c.loop-signal.invariant
