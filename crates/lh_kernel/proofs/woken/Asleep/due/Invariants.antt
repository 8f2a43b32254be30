use Rattle.lh_kernel.proofs.WokenInstances.{HasFirst}
use Rattle.lh_kernel.proofs.woken.Asleep.due.Given as goal

abbrev pub invariant-loop-instance : goal.invariant-loop-instance
invariant-loop-instance l = HasFirst l.instance-items l.instance-index l.due
