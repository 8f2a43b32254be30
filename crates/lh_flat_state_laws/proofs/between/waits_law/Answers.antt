use Rattle.lh_flat_state_laws.proofs.StateRelation.{lasting_waits}
use Rattle.lh_flat_state_laws.proofs.between.waits_law.Goals as goal

pub returns : goal.returns
returns c = lasting_waits
