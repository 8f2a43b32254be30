use Rattle.lh_entity_laws.proofs.EmittedStands.{each-once}
use Rattle.lh_entity_laws.proofs.laws.once_stands.Goals as goal

pub returns : goal.returns
returns c =
    each-once c.formed_law.ensures c.once_stands_for.ensures c.once_given.ensures
