use Rattle.lh_emit_def.proofs.Worked.{worked}
use Rattle.lh_emit_def.proofs.laws.worked_entities.Goals as goal

pub returns : goal.returns
returns c = worked
