use Rattle.lh_types.specs.PartViews.{part_of_view}
use Rattle.lh_types.proofs.PartLemmas.{StepsAt}
use Rattle.lh_types.proofs.part.range_of.Given as goal

abbrev pub invariant-loop-step : goal.invariant-loop-step
invariant-loop-step l = StepsAt l.fn.t l.steps l.step-index (part_of_view l.part)
