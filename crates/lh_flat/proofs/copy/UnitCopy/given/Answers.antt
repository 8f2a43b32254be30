use Rattle.lh_flat.proofs.CallGraph.{placed-at}
use Rattle.lh_flat.proofs.copy.UnitCopy.given.Goals as goal

pub give_block-requires : goal.give_block-requires
give_block-requires c =
    placed-at c.args.self.now.view.module.now c.args.self.now.view.unit.0 c.loop-block.block-index (record { 0 = 0 }) c.blocks-block-items.result.now c.blocks-block-items.ensures.sound
    c.args.self.now.view.in_place
    c.blocks-block-items.ensures.blocks c.loop-block-test.true
