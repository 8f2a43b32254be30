use Rattle.lh_ops.proofs.RowLemmas.{one_replaced}
use Rattle.lh_ops.proofs.parts.with_part.Goals as goal

pub returns : goal.returns
returns c = one_replaced _ _ _ _ _ _ _ c.requires c.in_ok-list.ensures c.in_ok-new.ensures c.in_ok-push.ensures.ok c.in_ok-append.ensures
