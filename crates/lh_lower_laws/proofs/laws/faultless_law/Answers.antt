use Rattle.lh_entity_laws.proofs.Few.{unit-args-few}
use Rattle.lh_lower_laws.proofs.LoweredForm.{lowered-faultless}
use Rattle.lh_lower_laws.proofs.laws.faultless_law.Goals as goal

pub returns : goal.returns
returns c =
    lowered-faultless c.modules_are_spelled_by_items.ensures.apart c.printable_items_are_spelled.ensures.printable unit-args-few c.formed_law.ensures c.comb_given.ensures c.edge_given.ensures
    c.once_given.ensures c.lowering_law.ensures.names
    c.comb_law.ensures.right c.edge_law.ensures.right c.once_law.ensures.right
