use Rattle.lh_kernel.proofs.WishedSignals.{again}
use Rattle.lh_kernel.proofs.touched.touched_at.Goals as goal

pub returns : goal.returns
returns c = again _ _ _ _ _ _ c.in_ok-gathered_at.ensures c.in_ok-touched.ensures
