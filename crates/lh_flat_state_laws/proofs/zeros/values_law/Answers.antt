use Rattle.lh_flat_state_laws.proofs.ZeroPadding.{padded_values}
use Rattle.lh_flat_state_laws.proofs.zeros.values_law.Goals as goal

pub returns : goal.returns
returns c = padded_values
