use Rattle.std.proofs.Common.{◌≡◌, ◌++◌, drop}
use Rattle.lh_verify_operands.specs.Uses.{values_used}
use Rattle.lh_verify_operands.proofs.uses.put_values.Given as goal

abbrev pub invariant-loop-value : goal.invariant-loop-value
invariant-loop-value l = l.list ++ values_used l.need (drop l.value-index l.values) ≡ l.initial.list ++ values_used l.need l.values
