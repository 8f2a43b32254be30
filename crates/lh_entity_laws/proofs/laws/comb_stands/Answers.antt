use Rattle.lh_entity_laws.proofs.EmittedStands.{each-comb}
use Rattle.lh_entity_laws.proofs.laws.comb_stands.Goals as goal

pub returns : goal.returns
returns c =
    each-comb c.formed_law.ensures c.comb_stands_for.ensures c.comb_given.ensures
