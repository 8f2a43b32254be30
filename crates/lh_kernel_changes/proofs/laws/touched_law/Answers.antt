use Rattle.lh_kernel_changes.proofs.Same.{only_touched_change, only_written_change}
use Rattle.lh_kernel_changes.proofs.laws.touched_law.Goals as goal

pub returns : goal.returns
returns c = record { only = only_touched_change; written = only_written_change }
