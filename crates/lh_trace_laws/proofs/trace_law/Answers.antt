use Rattle.lh_trace_laws.proofs.TraceLaw.{trace_is_prefix, trace_is_within}
use Rattle.lh_trace_laws.proofs.trace_law.Goals as goal

pub returns : goal.returns
returns c = record { prefix = trace_is_prefix; within = trace_is_within }
