use Rattle.lh_kernel.proofs.WokenInstances.{RousedTo}
use Rattle.lh_kernel.proofs.woken.Asleep.rouse.Given as goal

abbrev pub invariant-loop-instance : goal.invariant-loop-instance
invariant-loop-instance l = RousedTo l.self.states.now l.self.probes.now l.old l.now l.instance-items l.instance-index l.fn.woken l.woken
