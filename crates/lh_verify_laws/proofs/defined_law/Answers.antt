use Rattle.lh_verify_laws.proofs.DefinedLaw.{all_there}
use Rattle.lh_verify_laws.proofs.defined_law.Goals as goal

pub returns : goal.returns
returns c = all_there
