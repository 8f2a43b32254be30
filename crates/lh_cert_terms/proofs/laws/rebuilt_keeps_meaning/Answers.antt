use Rattle.lh_cert_terms.proofs.Reading.{rebuilt_sound}
use Rattle.lh_cert_terms.proofs.laws.rebuilt_keeps_meaning.Goals as goal

pub returns : goal.returns
returns c = rebuilt_sound
