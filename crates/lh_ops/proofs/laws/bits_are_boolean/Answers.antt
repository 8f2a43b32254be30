use Rattle.lh_ops.proofs.BooleanLemmas.{bits_are_boolean_lem}
use Rattle.lh_ops.proofs.laws.bits_are_boolean.Goals as goal

pub returns : goal.returns
returns c = bits_are_boolean_lem
