use Rattle.lh_eval.proofs.ValuesFit.{operands-fit-rows}
use Rattle.lh_eval.proofs.laws.fitting_law.Goals as goal

pub returns : goal.returns
returns c = operands-fit-rows
