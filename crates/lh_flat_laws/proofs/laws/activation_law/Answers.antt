use Rattle.lh_flat_laws.proofs.FlatActivations.{activates_alike}
use Rattle.lh_flat_laws.proofs.laws.activation_law.Goals as goal

pub returns : goal.returns
returns c = activates_alike
