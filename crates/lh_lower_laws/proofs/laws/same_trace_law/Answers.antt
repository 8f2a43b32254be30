use Rattle.lh_lower_laws.proofs.LoweredTrace.{same-trace, same-trace-within, large-is-enough}
use Rattle.lh_lower_laws.proofs.laws.same_trace_law.Goals as goal

pub returns : goal.returns
returns c = record {
  same = same-trace c.lowered_stands.ensures c.replaced_law.ensures c.max_is_enough.ensures;
  within = same-trace-within c.lowered_stands.ensures c.replaced_law.ensures;
  large = large-is-enough c.max_is_enough.ensures;
}
