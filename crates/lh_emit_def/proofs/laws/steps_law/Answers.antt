use Rattle.lh_emit_def.proofs.FirstSteps.{steps-first}
use Rattle.lh_emit_def.proofs.ReachedParts.{part-reached}
use Rattle.lh_emit_def.proofs.laws.steps_law.Goals as goal

pub returns : goal.returns
returns c = record { reached = part-reached; first = steps-first }
