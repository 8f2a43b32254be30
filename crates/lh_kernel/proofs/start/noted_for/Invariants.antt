use Rattle.lh_kernel.proofs.FirstStates.{NotedTo}
use Rattle.lh_kernel.proofs.start.noted_for.Given as goal

abbrev pub invariant-loop-number : goal.invariant-loop-number
invariant-loop-number l = NotedTo l.d.signals.items l.states l.probes l.number l.noted
