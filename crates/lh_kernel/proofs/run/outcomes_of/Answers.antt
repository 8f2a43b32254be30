use Rattle.lh_kernel.proofs.InstanceRuns.{outcomes-next}
use Rattle.lh_kernel.proofs.run.outcomes_of.Goals as goal

pub loop-done-preserved : goal.loop-done-preserved
loop-done-preserved c = outcomes-next c.args.acts.now c.loop-done.done-index c.done-item.result c.loop-done.outcomes c.add_outcomes.new.outcomes
    c.loop-done-test.true c.done-item.is c.loop-done.invariant c.in_ok-add_outcomes.ensures
