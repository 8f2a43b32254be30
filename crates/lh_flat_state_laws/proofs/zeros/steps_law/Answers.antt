use Rattle.lh_flat_state_laws.proofs.ZeroPadding.{padded_steps}
use Rattle.lh_flat_state_laws.proofs.zeros.steps_law.Goals as goal

pub returns : goal.returns
returns c = padded_steps
