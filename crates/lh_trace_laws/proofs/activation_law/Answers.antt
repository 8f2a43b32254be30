use Rattle.lh_trace_laws.proofs.ActivationsLaw.{activation_computes, runaway_computes, one_activation}
use Rattle.lh_trace_laws.proofs.activation_law.Goals as goal

pub returns : goal.returns
returns c = record { computes = activation_computes; runaway = runaway_computes; one = one_activation }
