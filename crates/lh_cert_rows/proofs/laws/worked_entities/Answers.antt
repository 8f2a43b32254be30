use Rattle.std.proofs.Common.{refl}
use Rattle.lh_cert_rows.specs.Reading.{read}
use Rattle.lh_cert_rows.proofs.laws.worked_entities.Goals as goal

pub returns : goal.returns
unfolding read
returns c = record { clocked_probes = refl; clocked_rows = refl; chosen_probes = refl; chosen_rows = refl }
