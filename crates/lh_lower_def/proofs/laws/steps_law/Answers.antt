use Rattle.lh_lower_def.proofs.LoweringSteps.{lowered-one-by-one}
use Rattle.lh_lower_def.proofs.laws.steps_law.Goals as goal

pub returns : goal.returns
returns c = lowered-one-by-one
