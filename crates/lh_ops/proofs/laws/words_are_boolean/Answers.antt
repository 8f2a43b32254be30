use Rattle.lh_ops.proofs.BooleanLemmas.{words_are_boolean_lem}
use Rattle.lh_ops.proofs.laws.words_are_boolean.Goals as goal

pub returns : goal.returns
returns c = words_are_boolean_lem
