use Rattle.lh_trace_laws.proofs.WokenLaw.{toggled_bits}
use Rattle.lh_trace_laws.proofs.toggled_law.Goals as goal

pub returns : goal.returns
returns c = toggled_bits
