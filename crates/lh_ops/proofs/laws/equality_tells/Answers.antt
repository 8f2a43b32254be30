use Rattle.lh_ops.proofs.BooleanLemmas.{equality_tells_lem}
use Rattle.lh_ops.proofs.laws.equality_tells.Goals as goal

pub returns : goal.returns
returns c = equality_tells_lem
