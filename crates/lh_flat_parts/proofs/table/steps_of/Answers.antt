use Rattle.std.proofs.Common.{arith, drop, ◌+◌}
use Rattle.lh_unit.proofs.Lists.{drop-item}
use Rattle.lh_flat_parts.proofs.Tables.{Taking-within, Taking-block}
use Rattle.lh_flat_parts.proofs.table.steps_of.Goals as goal

pub take_block-requires : goal.take_block-requires
take_block-requires c =
    let items = c.as_slice-block-items.result.now in let i = c.loop-block.block-index in
    Taking-within _ _ _ (drop i items) items c.block-item.result (drop (i + 1) items) (drop-item items i c.block-item.result (omega arith) c.block-item.is) c.loop-block.invariant.taking

pub loop-block-preserved : goal.loop-block-preserved
loop-block-preserved c =
    let items = c.as_slice-block-items.result.now in let i = c.loop-block.block-index in
    record {
      taking = Taking-block _ _ _ _ _ (drop i items) items c.block-item.result (drop (i + 1) items) (drop-item items i c.block-item.result (omega arith) c.block-item.is)
          c.in_ok-take_block.ensures.given c.in_ok-take_block.ensures.results c.loop-block.invariant.taking;
      carried = c.in_ok-take_block.ensures.carried c.loop-block.invariant.carried;
    }
