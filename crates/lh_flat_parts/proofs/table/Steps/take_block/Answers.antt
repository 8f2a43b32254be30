use Rattle.std.proofs.Common.{arith, drop, ◌+◌}
use Rattle.lh_unit.proofs.Lists.{drop-item}
use Rattle.lh_flat_parts.proofs.Tables.{TakingLines-line, TakingLines-within}
use Rattle.lh_flat_parts.proofs.table.Steps.take_block.Goals as goal

pub take-requires : goal.take-requires
take-requires c =
    let items = c.as_slice-line-items.result.now in let i = c.loop-line.line-index in
    TakingLines-within _ _ _ _ _ (drop i items) items c.line-item.result (drop (i + 1) items) (drop-item items i c.line-item.result (omega arith) c.line-item.is) c.loop-line.invariant

pub loop-line-preserved : goal.loop-line-preserved
loop-line-preserved c =
    let items = c.as_slice-line-items.result.now in let i = c.loop-line.line-index in
    TakingLines-line _ _ _ _ _ _ _ (drop i items) items c.line-item.result (drop (i + 1) items) (drop-item items i c.line-item.result (omega arith) c.line-item.is) c.in_ok-take.ensures.given
    c.in_ok-take.ensures.results c.in_ok-take.ensures.carried c.loop-line.invariant
