use Rattle.lh_flat_laws.proofs.FlatActivations.{begins_alike}
use Rattle.lh_flat_laws.proofs.laws.begin_law.Goals as goal

pub returns : goal.returns
returns c = begins_alike
