use Rattle.std.proofs.Common.{◌<◌, ◌-◌, ◌/◌, ◌+◌, length, arith}
use Rattle.lh_types.specs.Wish.{due_bit}
use Rattle.lh_eval_wishes.proofs.RunLemmas.{below-more}
use Rattle.lh_eval_wishes.proofs.runs.count_below.Goals as goal

pub loop-low-preserved-then-is_below : goal.loop-low-preserved-then-is_below
loop-low-preserved-then-is_below c =
    let h : c.loop-low.low + (c.loop-low.high - c.loop-low.low) / 2 < length c.args.runs.now = omega arith in
    record {
      order = omega arith;
      within = omega arith;
      below = below-more (due_bit c.args.due c.args.lo) c.args.runs.now (c.loop-low.low + (c.loop-low.high - c.loop-low.low) / 2) c.index-runs-mid.result c.requires h c.index-runs-mid.is
          (c.is_below.ensures c.if-is_below.true);
    }
