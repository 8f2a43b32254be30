use Rattle.lh_flat_state_laws.proofs.StateRelation.{lasting_begins}
use Rattle.lh_flat_state_laws.proofs.between.begins_law.Goals as goal

pub returns : goal.returns
returns c = lasting_begins
