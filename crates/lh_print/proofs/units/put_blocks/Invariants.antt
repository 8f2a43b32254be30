use Rattle.std.proofs.Common.{drop, map}
use Rattle.lh_text_buffer.specs.Writing.{Leaves}
use Rattle.lh_unit.specs.Arena.{naming, table_at}
use Rattle.lh_unit.specs.Naming.{block_text}
use Rattle.lh_unit.specs.Canon.{blocks_lines, text_of}
use Rattle.lh_print.proofs.units.put_blocks.Given as goal

abbrev pub invariant-loop-block : goal.invariant-loop-block
invariant-loop-block l = Leaves l.initial.out l.out (text_of (blocks_lines (map (block_text (naming l.view.module.now l.view.unit.0) (table_at l.view.module.now l.view.unit.0)) (drop l.block-index l.blocks)))) (text_of (blocks_lines (map (block_text (naming l.view.module.now l.view.unit.0) (table_at l.view.module.now l.view.unit.0)) l.blocks)))
