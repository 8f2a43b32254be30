use Rattle.lh_region_joins.proofs.Merged.{taken-by-conditions}
use Rattle.lh_region_joins.proofs.laws.taken_law.Goals as goal

pub returns : goal.returns
returns c = taken-by-conditions
