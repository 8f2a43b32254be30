use Rattle.lh_region_joins.proofs.Conditions.{takes-or}
use Rattle.lh_region_joins.proofs.logic.or.Goals as goal

pub op-requires-clause-fits : goal.op-requires-clause-fits
op-requires-clause-fits c = takes-or _ _ c.requires.a_holds.cond c.requires.b_holds.cond
