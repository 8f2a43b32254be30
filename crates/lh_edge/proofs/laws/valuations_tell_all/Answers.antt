use Rattle.lh_edge.proofs.Tables.{to_all, from_all}
use Rattle.lh_edge.proofs.laws.valuations_tell_all.Goals as goal

pub returns : goal.returns
returns c = λ waited x. (to_all waited x, from_all waited x)
