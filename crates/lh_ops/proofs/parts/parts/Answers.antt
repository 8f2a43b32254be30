use Rattle.lh_ops.proofs.parts.parts.Goals as goal
use Rattle.lh_types.proofs.DatumRows.{parts_of-data_row}

pub returns-in-Array : goal.returns-in-Array
returns-in-Array c = rw (c.in-Array.is, parts_of-data_row) c.as_slice.ensures

pub returns-in-Tuple : goal.returns-in-Tuple
returns-in-Tuple c = rw (c.in-Tuple.is, parts_of-data_row) c.as_slice-in-Tuple.ensures
