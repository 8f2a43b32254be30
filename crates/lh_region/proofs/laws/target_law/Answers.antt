use Rattle.lh_region.proofs.OneTarget.{target-by-ways}
use Rattle.lh_region.proofs.laws.target_law.Goals as goal

pub returns : goal.returns
returns c = target-by-ways
