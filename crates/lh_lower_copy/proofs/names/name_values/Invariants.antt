use Rattle.lh_unit.specs.Arena.{value_name_at}
use Rattle.lh_lower_copy.specs.Named.{NamesValues}
use Rattle.lh_lower_copy.proofs.names.name_values.Given as goal

abbrev pub invariant-loop-value : goal.invariant-loop-value
invariant-loop-value l = NamesValues l.fn.m l.m l.unit.0 l.value (value_name_at l.from l.unit.0)
