use Rattle.std.proofs.Common.{ℕ, ◌<◌}
use Rattle.lh_unit.specs.Arena.{label_name_at}
use Rattle.lh_unit_names.specs.Names.{IsName}
use Rattle.lh_flat.proofs.named.read_labels.Given as goal

abbrev pub invariant-loop-label : goal.invariant-loop-label
invariant-loop-label l = (k : ℕ) → k < l.label → IsName (label_name_at l.view.module.now l.view.unit.0 k)
