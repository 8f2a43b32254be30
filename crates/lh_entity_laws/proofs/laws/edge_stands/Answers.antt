use Rattle.lh_entity_laws.proofs.EmittedStands.{each-edge}
use Rattle.lh_entity_laws.proofs.laws.edge_stands.Goals as goal

pub returns : goal.returns
returns c =
    each-edge c.formed_law.ensures c.edge_stands_for.ensures c.edge_given.ensures
