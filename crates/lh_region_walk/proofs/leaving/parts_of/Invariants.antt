use Rattle.std.proofs.Common.{take}
use Rattle.lh_region_walk.specs.Leaving.{PartsOf}
use Rattle.lh_region_walk.proofs.leaving.parts_of.Given as goal

abbrev pub invariant-loop-value : goal.invariant-loop-value
invariant-loop-value l = PartsOf l.table.parts.items (take l.value-index l.values) l.parts
