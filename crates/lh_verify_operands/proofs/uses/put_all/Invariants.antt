use Rattle.std.proofs.Common.{◌≡◌, ◌++◌, drop}
use Rattle.lh_verify_operands.specs.Uses.{all_used}
use Rattle.lh_verify_operands.proofs.uses.put_all.Given as goal

abbrev pub invariant-loop-operand : goal.invariant-loop-operand
invariant-loop-operand l = l.list ++ all_used l.need (drop l.operand-index l.operands) ≡ l.initial.list ++ all_used l.need l.operands
