use Rattle.std.proofs.Common.{◌≡◌, take, map}
use Rattle.lh_types.specs.Values.{datum_count, datum_count_row, data_row}
use Rattle.lh_types.specs.ValueOf.{datum_of}
use Rattle.lh_term.specs.Types.{value_type}
use Rattle.lh_term.proofs.types.+value_type.Given as goal

abbrev pub decreases-value_type : goal.decreases-value_type
decreases-value_type l = datum_count (datum_of l.v.now)

abbrev pub decreases-array_type : goal.decreases-array_type
decreases-array_type l = datum_count_row (data_row l.vs.now)

abbrev pub decreases-tuple_type : goal.decreases-tuple_type
decreases-tuple_type l = datum_count_row (data_row l.vs.now)

abbrev pub invariant-tuple_type-loop-v : goal.invariant-tuple_type-loop-v
invariant-tuple_type-loop-v l = record { whole : map datum_of l.v-items ≡ l.fn.vs; done : l.fields ≡ map (λ v. value_type (datum_of v)) (take l.v-index l.v-items) }
