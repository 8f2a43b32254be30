use Rattle.lh_trace_laws.proofs.NextLaw.{next_computes}
use Rattle.lh_trace_laws.proofs.next_law.Goals as goal

pub returns : goal.returns
returns c = next_computes
