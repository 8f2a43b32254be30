use Rattle.lh_flat_state_laws.proofs.ZeroPadding.{padded_probes}
use Rattle.lh_flat_state_laws.proofs.zeros.probes_law.Goals as goal

pub returns : goal.returns
returns c = padded_probes
