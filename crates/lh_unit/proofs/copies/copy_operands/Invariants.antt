use Rattle.std.proofs.Common.{◌≡◌, take}
use Rattle.lh_unit.proofs.copies.copy_operands.Given as goal

abbrev pub invariant-loop-operand : goal.invariant-loop-operand
invariant-loop-operand l = l.to ≡ take l.operand-index l.operands
