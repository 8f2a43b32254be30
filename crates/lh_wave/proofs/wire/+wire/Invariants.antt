use Rattle.lh_types.specs.Values.{datum_count, datum_count_row, data_row}
use Rattle.lh_types.specs.ValueOf.{datum_of}
use Rattle.lh_wave.proofs.WireLemmas.{BitsAt}
use Rattle.lh_wave.proofs.wire.+wire.Given as goal

abbrev pub decreases-put_value_bits : goal.decreases-put_value_bits
decreases-put_value_bits l = datum_count (datum_of l.v.now)

abbrev pub decreases-put_row_bits : goal.decreases-put_row_bits
decreases-put_row_bits l = datum_count_row (data_row l.vs.now)

abbrev pub invariant-put_row_bits-loop-v : goal.invariant-put_row_bits-loop-v
invariant-put_row_bits-loop-v l = BitsAt l.fn.to l.to l.fn.vs l.v-items l.v-index
