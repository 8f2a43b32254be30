use Rattle.lh_flat_state_laws.proofs.StateRelation.{lasting_stands}
use Rattle.lh_flat_state_laws.proofs.between.stands_law.Goals as goal

pub returns : goal.returns
returns c = lasting_stands
