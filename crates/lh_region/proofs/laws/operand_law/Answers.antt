use Rattle.lh_region.proofs.PhiOperands.{operands-agree}
use Rattle.lh_region.proofs.laws.operand_law.Goals as goal

pub returns : goal.returns
returns c = operands-agree
