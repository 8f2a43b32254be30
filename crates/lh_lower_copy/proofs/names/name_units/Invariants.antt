use Rattle.lh_lower_copy.specs.Named.{NamesUnits}
use Rattle.lh_lower_copy.proofs.names.name_units.Given as goal

abbrev pub invariant-loop-unit : goal.invariant-loop-unit
invariant-loop-unit l = NamesUnits l.from l.m l.unit
