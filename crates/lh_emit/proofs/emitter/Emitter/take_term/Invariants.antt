use Rattle.lh_emit.specs.Tasks.{steps_size}
use Rattle.lh_emit.specs.Underway.{steps_at, tops}
use Rattle.lh_emit.proofs.TaskSteps.{GoneSoFar}
use Rattle.lh_emit.proofs.emitter.Emitter.take_term.Given as goal

abbrev pub invariant-loop-task : goal.invariant-loop-task
invariant-loop-task l = GoneSoFar l.fn.terms l.origin l.fn.self l.term l.terms l.self l.tasks.items

abbrev pub decreases-loop-task : goal.decreases-loop-task
decreases-loop-task l = steps_size (steps_at l.terms (tops l.tasks.items))
