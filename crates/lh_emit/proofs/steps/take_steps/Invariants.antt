use Rattle.std.proofs.Common.{length}
use Rattle.lh_emit.specs.Steps.{AllData, Walks}
use Rattle.lh_emit.proofs.steps.take_steps.Given as goal

abbrev pub invariant-loop-left : goal.invariant-loop-left
invariant-loop-left l = record { walks : Walks l.route l.fn.lines l.fn.from l.lines l.value l.left; types : AllData l.left }

abbrev pub decreases-loop-left : goal.decreases-loop-left
decreases-loop-left l = length l.left
