use Rattle.lh_region_def.proofs.Activations.{rows-are-typed}
use Rattle.lh_region_def.proofs.laws.rows_are_typed.Goals as goal

pub returns : goal.returns
returns c = rows-are-typed
