use Rattle.std.proofs.Common.{sym, subst}
use Rattle.lh_kernel.specs.Moves.{MovesKnown}
use Rattle.lh_kernel.specs.Phases.{awake_in}
use Rattle.lh_kernel.proofs.Ahead.{fresh_as}
use Rattle.lh_kernel.proofs.NotedInstances.{on_err, noted_itself}
use Rattle.lh_kernel.proofs.Tallies.{rises_activated}
use Rattle.lh_kernel.proofs.machine.SimState.prepared.Goals as goal

pub enter-requires-clause-fresh : goal.enter-requires-clause-fresh
enter-requires-clause-fresh g c =
    fresh_as c.args.self.now c.args.at c.args.touched.now c.in_ok-plan.plan c.deref.result.now c.requires.looked c.in_ok-plan.ensures.planned c.deref.ensures.value

pub returns-in_err-plan-clause-err_tally : goal.returns-in_err-plan-clause-err_tally
returns-in_err-plan-clause-err_tally g c = on_err c.from_residual.result c.in_err-plan.ensures.err_tally

pub returns-in_err-plan-clause-err : goal.returns-in_err-plan-clause-err
returns-in_err-plan-clause-err g c = on_err c.from_residual.result (noted_itself c.args.self.now.noted)

pub returns-in_err-reserve-clause-err : goal.returns-in_err-reserve-clause-err
returns-in_err-reserve-clause-err g c = on_err c.from_residual-in_err-reserve.result (noted_itself c.args.self.now.noted)

pub returns-in_err-reserve-clause-err_tally : goal.returns-in_err-reserve-clause-err_tally
returns-in_err-reserve-clause-err_tally g c =
    on_err c.from_residual-in_err-reserve.result
    (rises_activated c.in_ok-plan.plan.runaway (awake_in c.args.self.now c.args.at) (g.T.Tally.count c.args.tally.now) (g.T.Tally.count c.plan_frame.new.tally) c.in_ok-plan.ensures.tally)

pub returns-in_err-enter-clause-err_tally : goal.returns-in_err-enter-clause-err_tally
returns-in_err-enter-clause-err_tally g c =
    on_err c.from_residual-in_err-enter.result
    (rises_activated c.in_ok-plan.plan.runaway (awake_in c.args.self.now c.args.at) (g.T.Tally.count c.args.tally.now) (g.T.Tally.count c.plan_frame.new.tally) c.in_ok-plan.ensures.tally)

pub enter-requires-clause-known : goal.enter-requires-clause-known
enter-requires-clause-known g c =
    let signals = c.args.self.now.design.signals.items in
    (signals, c.requires.looked.kept.noted.long, subst (MovesKnown signals) (sym c.deref.ensures.value) c.in_ok-plan.ensures.planned.known)
