use Rattle.std.proofs.Common.{List, take, subst}
use Rattle.lh_unit.specs.Arena.{table_at, label_count}
use Rattle.lh_unit.specs.declared.inst.BlockId.{BlockId}
use Rattle.lh_verify.specs.Predecessors.{IsPredecessors}
use Rattle.lh_verify_values.proofs.KnowingSteps.{taken}
use Rattle.lh_verify.proofs.predecessors.put_blocks.Goals as goal

pub loop-block-preserved : goal.loop-block-preserved
loop-block-preserved c =
    subst (λ (l : List BlockId). IsPredecessors (table_at c.args.m.now c.args.unit.0) l (label_count c.args.m.now c.args.unit.0) c.put_block.new.rows)
    (taken c.args.blocks.now c.loop-block.block-index (record { 0 = 0 }) c.loop-block-test.true)
    (c.in_ok-put_block.ensures (take c.loop-block.block-index c.args.blocks.now) c.loop-block.invariant)
