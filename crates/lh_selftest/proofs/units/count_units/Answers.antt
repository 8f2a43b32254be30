use Rattle.lh_selftest.proofs.UnitCounts.{units-by_id}
use Rattle.lh_selftest.proofs.units.count_units.Goals as goal

pub returns : goal.returns
returns c = units-by_id c.args.m.now c.args.rows.now _ _ _ c.requires (rw c.items.ensures.items at c.count_defined.ensures) c.count_lowered.ensures c.count_left.ensures
