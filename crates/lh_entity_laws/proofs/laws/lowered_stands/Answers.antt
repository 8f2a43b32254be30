use Rattle.lh_entity_laws.proofs.EmittedStands.{all-stand}
use Rattle.lh_entity_laws.proofs.laws.lowered_stands.Goals as goal

pub returns : goal.returns
returns c =
    all-stand c.once_stands.ensures c.comb_stands.ensures c.edge_stands.ensures
