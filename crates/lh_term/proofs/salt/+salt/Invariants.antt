use Rattle.lh_types.specs.Values.{datum_count, datum_count_row, data_row}
use Rattle.lh_types.specs.ValueOf.{datum_of}
use Rattle.lh_term.proofs.Salts.{SaltAt}
use Rattle.lh_term.proofs.salt.+salt.Given as goal

abbrev pub decreases-salt_of_value : goal.decreases-salt_of_value
decreases-salt_of_value l = datum_count (datum_of l.v.now)

abbrev pub decreases-salt_of_parts : goal.decreases-salt_of_parts
decreases-salt_of_parts l = datum_count_row (data_row l.vs.now)

abbrev pub invariant-salt_of_parts-loop-v : goal.invariant-salt_of_parts-loop-v
invariant-salt_of_parts-loop-v l = SaltAt l.fn.first l.fn.vs l.v-items l.v-index l.salt
