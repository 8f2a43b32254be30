use Rattle.lh_ops.proofs.TypeLemmas.{one_result_type_lem}
use Rattle.lh_ops.proofs.laws.one_result_type.Goals as goal

pub returns : goal.returns
returns c = one_result_type_lem
