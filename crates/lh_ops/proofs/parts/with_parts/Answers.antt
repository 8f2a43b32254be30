use Rattle.lh_ops.proofs.RowLemmas.{some_replaced}
use Rattle.lh_ops.proofs.parts.with_parts.Goals as goal

pub returns : goal.returns
returns c = some_replaced _ _ _ _ _ _ _ c.in_ok-list.ensures c.in_ok-append.ensures c.in_ok-append-2.ensures
