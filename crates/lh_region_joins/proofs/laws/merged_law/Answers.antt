use Rattle.lh_region_joins.proofs.Merged.{merged-by-conditions}
use Rattle.lh_region_joins.proofs.laws.merged_law.Goals as goal

pub returns : goal.returns
returns c = merged-by-conditions
