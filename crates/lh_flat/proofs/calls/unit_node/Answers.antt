use Rattle.lh_flat.proofs.CallGraph.{placed-at}
use Rattle.lh_flat.proofs.calls.unit_node.Goals as goal

pub take_block-requires : goal.take_block-requires
take_block-requires c =
    placed-at c.args.view.module.now c.args.view.unit.0 c.loop-block.block-index (record { 0 = 0 }) c.blocks-block-items.result.now c.blocks-block-items.ensures.sound c.args.view.in_place
    c.blocks-block-items.ensures.blocks c.loop-block-test.true
