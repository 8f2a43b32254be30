use Rattle.lh_args.proofs.Forms.{if_none, no_top, no_steps, no_count, simulates}
use Rattle.lh_args.proofs.command.simulation_of_options.Goals as goal

pub returns-in_err-top-clause-none : goal.returns-in_err-top-clause-none
returns-in_err-top-clause-none c = if_none _ _ (no_top _ _ c.in_ok-found.ensures.some c.in_err-top.was)

pub returns-in_err-number-clause-none : goal.returns-in_err-number-clause-none
returns-in_err-number-clause-none c = if_none _ _ (no_steps _ _ c.in_ok-found.ensures.some c.in_err-number.was)

pub returns-in_err-steps-clause-none : goal.returns-in_err-steps-clause-none
returns-in_err-steps-clause-none c = if_none _ _ (no_count _ _ _ c.in_ok-found.ensures.some c.in_ok-number.was c.in_err-steps.ensures.none)

pub returns-clause-some : goal.returns-clause-some
returns-clause-some c = simulates _ _ _ _ _ _ c.in_ok-found.ensures.some c.in_ok-top.was c.in_ok-number.was c.in_ok-steps.ensures.some c.top_meant.ensures
