use Rattle.lh_kernel.proofs.WokenInstances.{WokenTo}
use Rattle.lh_kernel.proofs.woken.Asleep.woken.Given as goal

abbrev pub invariant-loop-signal : goal.invariant-loop-signal
invariant-loop-signal l = WokenTo l.self.design.now.signals.items l.self.states.now l.self.probes.now l.self.noted.now l.old l.now l.signal-items l.signal-index l.initial.woken l.woken
