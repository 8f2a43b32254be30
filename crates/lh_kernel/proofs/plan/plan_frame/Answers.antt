use Rattle.lh_kernel.specs.Phases.{awake_in}
use Rattle.lh_kernel.proofs.NotedInstances.{on_err}
use Rattle.lh_kernel.proofs.Tallies.{rises_activated}
use Rattle.lh_kernel.proofs.plan.plan_frame.Goals as goal

pub returns-in_err-ran-clause-err_tally : goal.returns-in_err-ran-clause-err_tally
returns-in_err-ran-clause-err_tally g c = on_err c.from_residual.result c.in_err-ran.ensures.err_tally

pub returns-clause-err_tally : goal.returns-clause-err_tally
returns-clause-err_tally g c =
    on_err c.plan_ran.result
    (rises_activated c.in_ok-ran.ran.runaway (awake_in c.args.x.now c.args.at) (g.T.Tally.count c.args.tally.now) (g.T.Tally.count c.run_woken.new.tally) c.in_ok-ran.ensures.tally)
