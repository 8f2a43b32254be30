use Rattle.std.proofs.Common.{arith}
use Rattle.lh_lower_copy.proofs.Rests.{blocks-start, block-stands, blocks-next}
use Rattle.lh_lower_copy.proofs.units.keep_blocks.Goals as goal

pub loop-block-init : goal.loop-block-init
loop-block-init c = blocks-start c.args.from.now c.args.m.now c.args.unit c.blocks-blocks.result.now c.blocks-blocks.ensures.blocks c.requires.named c.requires.opened c.requires.fit

pub keep_block-requires-clause-stands : goal.keep_block-requires-clause-stands
keep_block-requires-clause-stands c =
    block-stands c.args.from.now c.args.m.now c.loop-block.m c.args.unit c.blocks-blocks.result.now c.loop-block.block-index (record { 0 = 0 }) c.blocks-blocks.ensures.sound c.requires.there
    c.blocks-blocks.ensures.blocks c.loop-block.invariant (omega arith)

pub loop-block-preserved : goal.loop-block-preserved
loop-block-preserved c =
    blocks-next c.args.from.now c.args.m.now c.loop-block.m c.args.unit c.blocks-blocks.result.now c.loop-block.block-index (record { 0 = 0 }) c.blocks-blocks.ensures.sound c.requires.there
    c.blocks-blocks.ensures.blocks c.loop-block.invariant (omega arith)
    c.keep_block.new.m c.requires.opened c.in_ok-keep_block.ensures
