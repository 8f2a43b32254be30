use Rattle.std.proofs.Common.{take}
use Rattle.lh_unit.specs.Arena.{table_at, label_count}
use Rattle.lh_verify.specs.Predecessors.{IsPredecessors}
use Rattle.lh_verify.proofs.predecessors.put_blocks.Given as goal

abbrev pub invariant-loop-block : goal.invariant-loop-block
invariant-loop-block l = IsPredecessors (table_at l.m l.unit.0) (take l.block-index l.blocks) (label_count l.m l.unit.0) l.rows
