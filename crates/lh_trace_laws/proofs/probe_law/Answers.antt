use Rattle.lh_trace_laws.proofs.ProbesLaw.{read_values_fit}
use Rattle.lh_trace_laws.proofs.probe_law.Goals as goal

pub returns : goal.returns
returns c = read_values_fit
