use Rattle.lh_verify_laws.proofs.CallsLaw.{calls_are_right}
use Rattle.lh_verify_laws.proofs.call_law.Goals as goal

pub returns : goal.returns
returns c = calls_are_right
