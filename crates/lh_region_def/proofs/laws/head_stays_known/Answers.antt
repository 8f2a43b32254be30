use Rattle.lh_region_def.proofs.Activations.{head-stays-known}
use Rattle.lh_region_def.proofs.laws.head_stays_known.Goals as goal

pub returns : goal.returns
returns c = head-stays-known
