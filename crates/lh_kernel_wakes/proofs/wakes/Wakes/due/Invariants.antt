use Rattle.std.proofs.Common.{◌≡◌, ◌++◌}
use Rattle.lh_kernel_wakes.specs.Waking.{first_at}
use Rattle.lh_kernel_wakes.proofs.wakes.Wakes.due.Given as goal

abbrev pub invariant-loop-wake : goal.invariant-loop-wake
invariant-loop-wake l = l.due.items ++ first_at l.at l.wake-iterator ≡ first_at l.at l.self
