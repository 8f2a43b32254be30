use Rattle.std.proofs.Common.{[], ◌∷◌, arith}
use Rattle.lh_eval.proofs.PartsRead.{range-within}
use Rattle.lh_eval.proofs.operate.step_into.Goals as goal

pub overflow_add-result : goal.overflow_add-result
overflow_add-result c = omega (arith, range-within c.args.carried.now (c.args.step ∷ []) c.in_ok-part.part c.requires.data c.in_ok-part.ensures)
