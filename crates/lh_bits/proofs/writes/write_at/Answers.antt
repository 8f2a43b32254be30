use Rattle.std.proofs.Common.{◌∙◌}
use Rattle.lh_bits.proofs.WrittenBits.{found-here, found-later, left-later}
use Rattle.lh_bits.proofs.writes.write_at.Goals as goal

pub returns-then-rest-n : goal.returns-then-rest-n
returns-then-rest-n c = c.loop-run.invariant.same ∙ found-here c.args.runs.now c.loop-run.run-index c.loop-run.rest c.run-item.result c.get.result c.loop-run-test.true c.run-item.is c.get.ensures

pub loop-run-preserved : goal.loop-run-preserved
loop-run-preserved c = record {
  within = left-later c.args.runs.now c.loop-run.run-index c.loop-run.rest c.len-n.result c.run-item.result c.loop-run-test.true c.run-item.is c.len-n.ensures c.if-rest-n.false
      c.loop-run.invariant.within;
  same = c.loop-run.invariant.same ∙ found-later c.args.runs.now c.loop-run.run-index c.loop-run.rest c.len-n.result c.run-item.result c.loop-run-test.true c.run-item.is c.len-n.ensures
      c.if-rest-n.false;
}
