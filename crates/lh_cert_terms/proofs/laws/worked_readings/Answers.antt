use Rattle.std.proofs.Common.{refl}
use Rattle.lh_cert_terms.proofs.laws.worked_readings.Goals as goal

pub returns : goal.returns
returns c = record { of_terms = refl; of_constants = refl; to_condition = refl; to_negation = refl; of_three = refl; by_byte = refl; before = refl; within = refl }
