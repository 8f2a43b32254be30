use Rattle.lh_region_laws.proofs.Second.{second-rows-typed}
use Rattle.lh_region_laws.proofs.second_rows_are_typed.Goals as goal

pub returns : goal.returns
returns c = second-rows-typed
