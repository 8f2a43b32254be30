use Rattle.lh_types.specs.Types.{node_count, node_count_row, row_of}
use Rattle.lh_verify_values.proofs.TypeNumbers.{DigestAt}
use Rattle.lh_verify_values.proofs.numbers.+digest.Given as goal

abbrev pub decreases-digest : goal.decreases-digest
decreases-digest l = node_count l.t.now

abbrev pub decreases-digest_of_fields : goal.decreases-digest_of_fields
decreases-digest_of_fields l = node_count_row (row_of l.fields.now)

abbrev pub invariant-digest_of_fields-loop-field : goal.invariant-digest_of_fields-loop-field
invariant-digest_of_fields-loop-field l = DigestAt l.fn.fields l.fields l.field-index l.sum
