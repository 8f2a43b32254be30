use Rattle.lh_types.specs.Values.{datum_count, datum_count_row, data_row}
use Rattle.lh_types.specs.ValueOf.{datum_of}
use Rattle.lh_bits.proofs.LayoutLemmas.{AppendsAt}
use Rattle.lh_bits.proofs.layout.+append.Given as goal

abbrev pub decreases-append_value : goal.decreases-append_value
decreases-append_value l = datum_count (datum_of l.v.now)

abbrev pub decreases-append_values : goal.decreases-append_values
decreases-append_values l = datum_count_row (data_row l.vs.now)

abbrev pub invariant-append_values-loop-v : goal.invariant-append_values-loop-v
invariant-append_values-loop-v l = AppendsAt l.fn.to l.to l.fn.vs l.v-items l.v-index
