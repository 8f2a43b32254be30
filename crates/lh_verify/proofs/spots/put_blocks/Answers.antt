use Rattle.lh_unit.specs.Arena.{table_at}
use Rattle.lh_verify.proofs.SpotParts.{blocks-step}
use Rattle.lh_verify.proofs.spots.put_blocks.Goals as goal

pub loop-block-preserved : goal.loop-block-preserved
loop-block-preserved c = blocks-step (table_at c.args.m.now c.args.unit.0) c.loop-block.in_entry c.args.blocks.now c.loop-block.block-index (record { 0 = 0 }) c.loop-block.list c.put_block.new.list _
    c.loop-block-test.true c.in_ok-put_block.ensures c.loop-block.invariant
