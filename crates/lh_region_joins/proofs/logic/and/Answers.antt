use Rattle.lh_region_joins.proofs.Conditions.{takes-and}
use Rattle.lh_region_joins.proofs.logic.and.Goals as goal

pub op-requires-clause-fits : goal.op-requires-clause-fits
op-requires-clause-fits c = takes-and _ _ c.requires.a_holds.cond c.requires.b_holds.cond
