use Rattle.std.proofs.Common.{arith}
use Rattle.std.proofs.lemmas.Grind.{common_steps}
use Rattle.lh_shape.proofs.ends.some_is_timed.Goals as goal

pub loop-end-preserved : goal.loop-end-preserved
loop-end-preserved c = grind (arith, common_steps)

pub returns-then-is_timed : goal.returns-then-is_timed
returns-then-is_timed c = grind (arith, common_steps)

pub returns : goal.returns
returns c = grind (arith, common_steps)
