use Rattle.std.proofs.Common.{length}
use Rattle.lh_kernel_changes.proofs.TouchedSignals.{run_within, runs_more, runs_all}
use Rattle.lh_kernel_changes.proofs.signals.touch_written.Goals as goal

pub touch-requires-clause-within : goal.touch-requires-clause-within
touch-requires-clause-within c =
    run_within (length c.args.design.now.init) c.runs-run-items.result.now c.args.writes.now c.loop-run.run-index c.len.result c.run-item.result c.runs-run-items.ensures c.requires.within
    c.loop-run-test.true c.run-item.is c.len.ensures

pub loop-run-preserved : goal.loop-run-preserved
loop-run-preserved c =
    runs_more c.args.design.now.signals.items c.runs-run-items.result.now c.loop-run.run-index c.len.result c.run-item.result c.args.touched.now c.loop-run.touched c.touch.new.touched
    c.loop-run-test.true c.run-item.is c.len.ensures c.loop-run.invariant c.in_ok-touch.ensures

pub returns : goal.returns
returns c = runs_all c.args.design.now.signals.items c.runs-run-items.result.now c.args.writes.now c.loop-run.run-index c.args.touched.now c.loop-run.touched c.loop-run-test.false
    c.runs-run-items.ensures c.loop-run.invariant
