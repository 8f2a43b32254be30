use Rattle.lh_region_def.proofs.Activations.{first-activation}
use Rattle.lh_region_def.proofs.laws.first_activation.Goals as goal

pub returns : goal.returns
returns c = first-activation
