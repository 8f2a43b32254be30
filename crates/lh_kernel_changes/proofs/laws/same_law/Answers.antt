use Rattle.lh_kernel_changes.proofs.Same.{parts_stay, signals_are_all}
use Rattle.lh_kernel_changes.proofs.laws.same_law.Goals as goal

pub returns : goal.returns
returns c = record { parts = parts_stay; all = signals_are_all }
