use Rattle.std.proofs.Common.{arith}
use Rattle.std.proofs.lemmas.Grind.{common_steps}
use Rattle.lh_verify.proofs.unit.any_hides_paths.Goals as goal

pub loop-k-preserved : goal.loop-k-preserved
loop-k-preserved c = grind (arith, common_steps)

pub bounds-wrong_phis-k : goal.bounds-wrong_phis-k
bounds-wrong_phis-k c = grind (arith, common_steps)

pub hides_paths-requires-clause-within : goal.hides_paths-requires-clause-within
hides_paths-requires-clause-within c = grind (arith, common_steps)

pub hides_paths-requires-clause-phi : goal.hides_paths-requires-clause-phi
hides_paths-requires-clause-phi c = grind (arith, common_steps)
