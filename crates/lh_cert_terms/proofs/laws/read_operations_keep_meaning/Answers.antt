use Rattle.lh_cert_terms.proofs.Reading.{read_sound}
use Rattle.lh_cert_terms.proofs.laws.read_operations_keep_meaning.Goals as goal

pub returns : goal.returns
returns c = read_sound
