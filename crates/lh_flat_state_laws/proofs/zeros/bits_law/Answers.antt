use Rattle.lh_flat_state_laws.proofs.ZeroPadding.{padded_bits}
use Rattle.lh_flat_state_laws.proofs.zeros.bits_law.Goals as goal

pub returns : goal.returns
returns c = padded_bits
