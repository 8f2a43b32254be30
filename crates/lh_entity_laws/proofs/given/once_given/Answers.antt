use Rattle.lh_entity_laws.proofs.GivenLaws.{once-given}
use Rattle.lh_entity_laws.proofs.given.once_given.Goals as goal

pub returns : goal.returns
returns c = once-given
