use Rattle.lh_ops.proofs.Worked.{worked_rows_lem}
use Rattle.lh_ops.proofs.laws.worked_rows.Goals as goal

pub returns : goal.returns
returns c = worked_rows_lem
