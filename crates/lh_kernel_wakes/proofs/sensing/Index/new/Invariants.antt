use Rattle.std.proofs.Common.{◌≡◌, length}
use Rattle.lh_kernel_wakes.proofs.IndexEntries.{NoneSenses}
use Rattle.lh_kernel_wakes.proofs.sensing.Index.new.Given as goal

abbrev pub invariant-loop-signal : goal.invariant-loop-signal
invariant-loop-signal l = (length l.lists.items ≡ l.signal) × NoneSenses l.lists.items
