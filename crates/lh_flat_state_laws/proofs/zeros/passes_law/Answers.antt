use Rattle.lh_flat_state_laws.proofs.ZeroPadding.{padded_passes}
use Rattle.lh_flat_state_laws.proofs.zeros.passes_law.Goals as goal

pub returns : goal.returns
returns c = padded_passes
