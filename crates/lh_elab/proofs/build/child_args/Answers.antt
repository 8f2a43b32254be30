use Rattle.std.proofs.Common.{◌∙◌}
use Rattle.lh_elab.proofs.BuildSteps.{by-more, by-all}
use Rattle.lh_elab.proofs.build.child_args.Goals as goal

pub loop-i-preserved : goal.loop-i-preserved
loop-i-preserved c = c.in_ok-push.ensures.ok
    ∙ by-more c.args.args.now c.args.sigs.now c.args.params.now c.args.lows.now c.loop-i.i c.index-params-i.result c.loop-i.ranges (record { lo = c.low_at.result; len = c.width_of.result })
    c.loop-i-test.true c.index-params-i.is c.loop-i.invariant c.low_at.ensures c.width_of.ensures

pub returns : goal.returns
returns c = by-all c.args.args.now c.args.sigs.now c.args.params.now c.args.lows.now c.loop-i.i c.loop-i.ranges c.loop-i-test.false c.loop-i.invariant
