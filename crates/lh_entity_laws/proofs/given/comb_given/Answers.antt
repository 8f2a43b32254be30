use Rattle.lh_entity_laws.proofs.GivenLaws.{comb-given}
use Rattle.lh_entity_laws.proofs.given.comb_given.Goals as goal

pub returns : goal.returns
returns c = comb-given
