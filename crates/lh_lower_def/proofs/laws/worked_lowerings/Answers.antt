use Rattle.lh_lower_def.proofs.Worked.{worked}
use Rattle.lh_lower_def.proofs.laws.worked_lowerings.Goals as goal

pub returns : goal.returns
returns c = worked
