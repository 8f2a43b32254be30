use Rattle.std.proofs.Common.{drop}
use Rattle.lh_lower_copy.proofs.Rests.{BlocksLeft}
use Rattle.lh_lower_copy.proofs.units.keep_blocks.Given as goal

abbrev pub invariant-loop-block : goal.invariant-loop-block
invariant-loop-block l = BlocksLeft l.from l.fn.m l.m l.unit (drop l.block-index l.blocks)
