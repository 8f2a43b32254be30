use Rattle.lh_region_def.proofs.Second.{second-region}
use Rattle.lh_region_def.proofs.laws.second_region.Goals as goal

pub returns : goal.returns
returns c = second-region
