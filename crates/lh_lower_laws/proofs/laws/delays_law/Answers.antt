use Rattle.lh_lower_laws.proofs.WrittenDelays.{delays-written}
use Rattle.lh_lower_laws.proofs.laws.delays_law.Goals as goal

pub returns : goal.returns
returns c = delays-written c.modules_are_spelled_by_items.ensures.apart c.printable_items_are_spelled.ensures.printable c.formed_law.ensures
