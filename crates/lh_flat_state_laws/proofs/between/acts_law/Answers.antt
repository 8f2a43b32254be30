use Rattle.lh_flat_state_laws.proofs.StateRelation.{lasting_acts}
use Rattle.lh_flat_state_laws.proofs.between.acts_law.Goals as goal

pub returns : goal.returns
returns c = lasting_acts
