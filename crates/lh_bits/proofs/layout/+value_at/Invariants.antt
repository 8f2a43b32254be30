use Rattle.std.proofs.Common.{◌+◌, ◌*◌}
use Rattle.lh_types.specs.Types.{node_count, node_count_row, row_of}
use Rattle.lh_bits.proofs.LayoutLemmas.{ElementsAt, FieldsAt}
use Rattle.lh_bits.proofs.layout.+value_at.Given as goal

abbrev pub decreases-value_at : goal.decreases-value_at
decreases-value_at l = 2 * node_count l.t.now

abbrev pub decreases-elements_at : goal.decreases-elements_at
decreases-elements_at l = 2 * node_count l.of.now + 1

abbrev pub decreases-fields_at : goal.decreases-fields_at
decreases-fields_at l = 2 * node_count_row (row_of l.fields.now) + 1

abbrev pub invariant-elements_at-loop-i : goal.invariant-elements_at-loop-i
invariant-elements_at-loop-i l = ElementsAt l.fn.of l.n l.lo l.b l.i l.to

abbrev pub invariant-fields_at-loop-field : goal.invariant-fields_at-loop-field
invariant-fields_at-loop-field l = FieldsAt l.fn.fields l.fields l.lo l.b l.field-index l.at l.to
