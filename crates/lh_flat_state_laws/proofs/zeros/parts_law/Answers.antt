use Rattle.lh_flat_state_laws.proofs.ZeroPadding.{padded_parts}
use Rattle.lh_flat_state_laws.proofs.zeros.parts_law.Goals as goal

pub returns : goal.returns
returns c = padded_parts
