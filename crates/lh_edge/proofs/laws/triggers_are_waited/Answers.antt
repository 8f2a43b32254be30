use Rattle.lh_edge.proofs.TriggersRest.{waited_on}
use Rattle.lh_edge.proofs.laws.triggers_are_waited.Goals as goal

pub returns : goal.returns
returns c = waited_on
