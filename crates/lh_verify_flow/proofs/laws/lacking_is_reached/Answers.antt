use Rattle.lh_verify_flow.proofs.EveryRoute.{lacking_is_reached}
use Rattle.lh_verify_flow.proofs.laws.lacking_is_reached.Goals as goal

pub returns : goal.returns
returns c = lacking_is_reached
