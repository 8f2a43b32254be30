use Rattle.lh_entity_laws.proofs.GivenLaws.{edge-given}
use Rattle.lh_entity_laws.proofs.given.edge_given.Goals as goal

pub returns : goal.returns
returns c = edge-given c.swaps_keep_meaning.ensures
