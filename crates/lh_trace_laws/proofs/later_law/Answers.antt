use Rattle.lh_trace_laws.proofs.LaterLaw.{run_goes_on, run_has_ended, later_is_reached}
use Rattle.lh_trace_laws.proofs.later_law.Goals as goal

pub returns : goal.returns
returns c = record { goes_on = run_goes_on; ended = run_has_ended; reached = later_is_reached }
