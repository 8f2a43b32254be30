use Rattle.std.proofs.Common.{drop}
use Rattle.lh_lower_copy.proofs.Rests.{LinesLeft}
use Rattle.lh_lower_copy.proofs.units.keep_insts.Given as goal

abbrev pub invariant-loop-inst : goal.invariant-loop-inst
invariant-loop-inst l = LinesLeft l.from l.fn.m l.m l.unit l.fn.block (drop l.inst-index l.insts)
