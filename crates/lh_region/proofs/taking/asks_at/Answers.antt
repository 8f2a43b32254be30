use Rattle.std.proofs.Common.{◌∙◌, ap, arith}
use Rattle.std.proofs.lemmas.Grind.{common_steps}
use Rattle.std.proofs.lemmas.List.{take_all}
use Rattle.lh_region.specs.Taken.{asks_at}
use Rattle.lh_region.proofs.taking.asks_at.Goals as goal

pub loop-arg-preserved : goal.loop-arg-preserved
loop-arg-preserved c = grind (arith, common_steps)

pub returns : goal.returns
returns c = c.loop-arg.invariant ∙ ap (asks_at c.args.at) (take_all c.loop-arg.arg-index c.args.args.now c.loop-arg-test.false)
