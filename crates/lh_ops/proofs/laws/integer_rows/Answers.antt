use Rattle.lh_ops.proofs.IntegerLemmas.{integer_rows_lem}
use Rattle.lh_ops.proofs.laws.integer_rows.Goals as goal

pub returns : goal.returns
returns c = integer_rows_lem
