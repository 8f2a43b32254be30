use Rattle.lh_types.specs.Types.{node_count, node_count_row, row_of}
use Rattle.lh_types.proofs.Rows.{SumAt}
use Rattle.lh_types.proofs.ty.+bits.Given as goal

abbrev pub decreases-bits : goal.decreases-bits
decreases-bits l = node_count l.t.now

abbrev pub decreases-bits_of_fields : goal.decreases-bits_of_fields
decreases-bits_of_fields l = node_count_row (row_of l.fields.now)

abbrev pub invariant-bits_of_fields-loop-field : goal.invariant-bits_of_fields-loop-field
invariant-bits_of_fields-loop-field l = SumAt l.fn.fields l.fields l.field-index l.sum
