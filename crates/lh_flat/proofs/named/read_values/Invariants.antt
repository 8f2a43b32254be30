use Rattle.std.proofs.Common.{ℕ, ◌<◌}
use Rattle.lh_unit.specs.Arena.{value_name_at}
use Rattle.lh_unit_names.specs.Names.{IsName}
use Rattle.lh_flat.proofs.named.read_values.Given as goal

abbrev pub invariant-loop-value : goal.invariant-loop-value
invariant-loop-value l = (k : ℕ) → k < l.value → IsName (value_name_at l.view.module.now l.view.unit.0 k)
