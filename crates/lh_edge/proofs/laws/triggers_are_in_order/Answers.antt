use Rattle.lh_edge.proofs.Sorted.{triggers-in_order}
use Rattle.lh_edge.proofs.laws.triggers_are_in_order.Goals as goal

pub returns : goal.returns
returns c = triggers-in_order
