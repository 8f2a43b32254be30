use Rattle.lh_edge.proofs.TriggersRest.{rests}
use Rattle.lh_edge.proofs.laws.rests_without_change.Goals as goal

pub returns : goal.returns
returns c = rests c.swaps_keep_meaning.ensures
