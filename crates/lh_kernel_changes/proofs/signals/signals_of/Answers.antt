use Rattle.lh_kernel_changes.proofs.TouchedSignals.{touched_again}
use Rattle.lh_kernel_changes.proofs.signals.signals_of.Goals as goal

pub returns : goal.returns
returns c = touched_again _ _ _ _ c.in_ok-touched_by.ensures c.in_ok-touched.ensures
