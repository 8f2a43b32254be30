use Rattle.lh_types.specs.Types.{node_count, node_count_row, row_of}
use Rattle.lh_types.proofs.Rows.{DeepAt}
use Rattle.lh_types.proofs.ty.+depth.Given as goal

abbrev pub decreases-depth : goal.decreases-depth
decreases-depth l = node_count l.t.now

abbrev pub decreases-depth_of_fields : goal.decreases-depth_of_fields
decreases-depth_of_fields l = node_count_row (row_of l.fields.now)

abbrev pub invariant-depth_of_fields-loop-field : goal.invariant-depth_of_fields-loop-field
invariant-depth_of_fields-loop-field l = DeepAt l.fn.fields l.fields l.field-index l.most
