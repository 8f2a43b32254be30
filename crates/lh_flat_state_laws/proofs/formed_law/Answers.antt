use Rattle.lh_flat_state_laws.proofs.Formed.{flat_texts_formed}
use Rattle.lh_flat_state_laws.proofs.formed_law.Goals as goal

pub returns : goal.returns
returns c = flat_texts_formed
