use Rattle.lh_entity_laws.proofs.Enough.{max-is-enough}
use Rattle.lh_entity_laws.proofs.laws.max_is_enough.Goals as goal

pub returns : goal.returns
returns c = max-is-enough
