use Rattle.lh_trace_laws.proofs.WokenLaw.{woken_are_listed, woken_rise}
use Rattle.lh_trace_laws.proofs.woken_law.Goals as goal

pub returns : goal.returns
returns c = record { listed = woken_are_listed; rise = woken_rise }
