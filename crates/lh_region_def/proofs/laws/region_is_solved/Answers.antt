use Rattle.lh_region_def.proofs.Solved.{region-solved}
use Rattle.lh_region_def.proofs.laws.region_is_solved.Goals as goal

pub returns : goal.returns
returns c = region-solved
