use Rattle.lh_flat_state_laws.proofs.FlatActivations.{flat_texts_act}
use Rattle.lh_flat_state_laws.proofs.activation_law.Goals as goal

pub returns : goal.returns
returns c = flat_texts_act
