use Rattle.lh_unit.specs.Arena.{label_name_at}
use Rattle.lh_lower_copy.specs.Named.{NamesLabels}
use Rattle.lh_lower_copy.proofs.names.name_labels.Given as goal

abbrev pub invariant-loop-label : goal.invariant-loop-label
invariant-loop-label l = NamesLabels l.fn.m l.m l.unit.0 l.label (label_name_at l.from l.unit.0)
