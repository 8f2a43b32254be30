use Rattle.std.proofs.lemmas.Grind.{common_steps}
use Rattle.std.proofs.Common.{arith}
use Rattle.lh_verify.proofs.NumbersKept.{number-within, number-there}
use Rattle.lh_verify.proofs.arguments.side_fits.Goals as goal

pub bounds-numbers-k : goal.bounds-numbers-k
bounds-numbers-k c = number-within c.args.scope.now.types.now c.args.params.now c.args.numbers.now c.loop-k.k c.index-params-k.result c.requires.numbers (omega arith) c.index-params-k.is

pub has_param-requires-clause-number : goal.has_param-requires-clause-number
has_param-requires-clause-number c = number-there c.args.scope.now.types.now c.args.params.now c.args.numbers.now c.loop-k.k c.index-params-k.result _ c.requires.numbers (omega arith)
    c.index-params-k.is

pub loop-k-preserved : goal.loop-k-preserved
loop-k-preserved c = grind (arith, common_steps)
