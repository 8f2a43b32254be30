use Rattle.std.proofs.Common.{◌+◌, ◌*◌}
use Rattle.lh_types.specs.Values.{datum_count, datum_count_row, data_row}
use Rattle.lh_types.specs.ValueOf.{datum_of}
use Rattle.lh_wave.proofs.ValueWalks.{ValuesAt}
use Rattle.lh_wave.proofs.value.+value.Given as goal

abbrev pub decreases-put_value : goal.decreases-put_value
decreases-put_value l = 2 * datum_count (datum_of l.v.now)

abbrev pub decreases-put_between : goal.decreases-put_between
decreases-put_between l = 2 * datum_count_row (data_row l.vs.now) + 1

abbrev pub decreases-put_values : goal.decreases-put_values
decreases-put_values l = 2 * datum_count_row (data_row l.vs.now)

abbrev pub invariant-put_values-loop-i : goal.invariant-put_values-loop-i
invariant-put_values-loop-i l = ValuesAt l.fn.to l.to l.fn.vs l.v-items l.i
