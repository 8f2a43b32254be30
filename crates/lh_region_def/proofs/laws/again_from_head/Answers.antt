use Rattle.lh_region_def.proofs.Activations.{again-from-head}
use Rattle.lh_region_def.proofs.laws.again_from_head.Goals as goal

pub returns : goal.returns
returns c = again-from-head
