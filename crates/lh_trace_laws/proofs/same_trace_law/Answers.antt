use Rattle.lh_trace_laws.proofs.TraceLaw.{equal_same_trace, same_trace_turns, same_trace_links}
use Rattle.lh_trace_laws.proofs.same_trace_law.Goals as goal

pub returns : goal.returns
returns c = record { equal = equal_same_trace; turns = same_trace_turns; links = same_trace_links }
