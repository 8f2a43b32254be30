use Rattle.lh_flat_state_laws.proofs.ZeroPadding.{padded_ranges}
use Rattle.lh_flat_state_laws.proofs.zeros.ranges_law.Goals as goal

pub returns : goal.returns
returns c = padded_ranges
