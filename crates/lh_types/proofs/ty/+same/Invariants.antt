use Rattle.lh_types.specs.Types.{node_count, node_count_row, row_of}
use Rattle.lh_types.proofs.Rows.{SameFrom}
use Rattle.lh_types.proofs.ty.+same.Given as goal

abbrev pub decreases-Ty::same : goal.decreases-Ty::same
decreases-Ty::same l = node_count l.self.now

abbrev pub decreases-same_fields : goal.decreases-same_fields
decreases-same_fields l = node_count_row (row_of l.ts.now)

abbrev pub invariant-same_fields-loop-i : goal.invariant-same_fields-loop-i
invariant-same_fields-loop-i l = SameFrom l.fn.ts l.fn.us l.ts l.us l.i
