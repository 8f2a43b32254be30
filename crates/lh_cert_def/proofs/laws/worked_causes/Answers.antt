use Rattle.lh_cert_def.proofs.Worked.{worked}
use Rattle.lh_cert_def.proofs.laws.worked_causes.Goals as goal

pub returns : goal.returns
returns c = worked
