use Rattle.std.proofs.Common.{arith}
use Rattle.std.proofs.lemmas.Grind.{common_steps}
use Rattle.lh_shape.proofs.reasons.some_is_uncovered.Goals as goal

pub loop-part-preserved : goal.loop-part-preserved
loop-part-preserved c = grind (arith, common_steps)

pub returns-then-not-has : goal.returns-then-not-has
returns-then-not-has c = grind (arith, common_steps)

pub returns : goal.returns
returns c = grind (arith, common_steps)
