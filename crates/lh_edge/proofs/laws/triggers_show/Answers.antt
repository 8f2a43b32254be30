use Rattle.lh_edge.proofs.TriggersFire.{triggers_show}
use Rattle.lh_edge.proofs.laws.triggers_show.Goals as goal

pub returns : goal.returns
returns c = triggers_show c.swaps_keep_meaning.ensures
