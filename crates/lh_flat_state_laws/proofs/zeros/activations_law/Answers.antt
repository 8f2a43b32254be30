use Rattle.lh_flat_state_laws.proofs.ZeroPadding.{padded_activations}
use Rattle.lh_flat_state_laws.proofs.zeros.activations_law.Goals as goal

pub returns : goal.returns
returns c = padded_activations
