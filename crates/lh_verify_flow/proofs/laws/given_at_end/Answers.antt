use Rattle.lh_verify_flow.proofs.EveryRoute.{given_at_end}
use Rattle.lh_verify_flow.proofs.laws.given_at_end.Goals as goal

pub returns : goal.returns
returns c = given_at_end
