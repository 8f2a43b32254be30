use Rattle.std.proofs.Common.{length, take}
use Rattle.lh_kernel.proofs.FirstStates.{Started}
use Rattle.lh_kernel.proofs.start.starts.Given as goal

abbrev pub invariant-loop-instance : goal.invariant-loop-instance
invariant-loop-instance l = Started l.m (length l.d.init) (take l.instance-index l.instance-items) l.states.items
