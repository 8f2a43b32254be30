use Rattle.std.proofs.Common.{take}
use Rattle.lh_region.specs.Effects.{IsWithAsserts}
use Rattle.lh_region.proofs.effects.add_asserts.Given as goal

abbrev pub invariant-loop-cond : goal.invariant-loop-cond
invariant-loop-cond l = IsWithAsserts l.fn.rows (take l.cond-index l.conds) l.rows
