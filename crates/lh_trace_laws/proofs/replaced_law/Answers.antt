use Rattle.lh_trace_laws.proofs.ReplacingLaw.{replaced_same_trace}
use Rattle.lh_trace_laws.proofs.replaced_law.Goals as goal

pub returns : goal.returns
returns c = replaced_same_trace
