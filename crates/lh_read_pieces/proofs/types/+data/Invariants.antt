use Rattle.std.proofs.Common.{◌+◌, ◌*◌, length}
use Rattle.lh_read_pieces.specs.Types.{data_at}
use Rattle.lh_read_pieces.proofs.Lists.{At}
use Rattle.lh_read_pieces.proofs.types.+data.Given as goal

abbrev pub decreases-data : goal.decreases-data
decreases-data l = 4 * l.deep

abbrev pub decreases-marked : goal.decreases-marked
decreases-marked l = 4 * l.deep + 3

abbrev pub decreases-array : goal.decreases-array
decreases-array l = 4 * l.deep + 2

abbrev pub decreases-tuple : goal.decreases-tuple
decreases-tuple l = 4 * l.deep + 2

abbrev pub decreases-fields : goal.decreases-fields
decreases-fields l = 4 * l.deep + 1

abbrev pub invariant-fields-loop-fields : goal.invariant-fields-loop-fields
invariant-fields-loop-fields l = At (data_at l.deep) l.tokens l.rest l.fields

abbrev pub decreases-fields-loop-fields : goal.decreases-fields-loop-fields
decreases-fields-loop-fields l = length l.rest
