use Rattle.std.proofs.Common.{arith}
use Rattle.std.proofs.lemmas.Grind.{common_steps}
use Rattle.lh_shape.proofs.ends.all_halt.Goals as goal

pub loop-end-preserved : goal.loop-end-preserved
loop-end-preserved c = grind (arith, common_steps)

pub returns-then-not-is_halt : goal.returns-then-not-is_halt
returns-then-not-is_halt c = grind (arith, common_steps)

pub returns : goal.returns
returns c = grind (arith, common_steps)
