use Rattle.std.proofs.Common.{map, ap, get_or}
use Rattle.lh_unit.specs.Arena.{naming, table_at}
use Rattle.lh_unit.specs.Naming.{block_text}
use Rattle.lh_unit.specs.Canon.{block_lines, blocks_lines, text_of}
use Rattle.std.proofs.lemmas.List.{drop_more, at_drop_all}
use Rattle.lh_unit.specs.Placed.{IsBlockOf}
use Rattle.lh_unit.proofs.Lists.{Each-at}
use Rattle.lh_text_buffer.proofs.Parts.{none-left}
use Rattle.lh_print.proofs.Joined.{line_step}
use Rattle.lh_print.proofs.units.put_blocks.Goals as goal

pub put_block-requires : goal.put_block-requires
put_block-requires c = record {
  block = Each-at (IsBlockOf c.args.view.module.now c.args.view.unit.0) c.args.blocks.now c.loop-block.block-index (record { 0 = 0 }) c.requires.blocks c.loop-block-test.true;
}

pub loop-block-preserved : goal.loop-block-preserved
loop-block-preserved c = line_step _ _ _ _
    (block_lines (block_text (naming c.args.view.module.now c.args.view.unit.0) (table_at c.args.view.module.now c.args.view.unit.0)
    (get_or c.args.blocks.now c.loop-block.block-index (record { 0 = 0 })))) _ _
    (ap (λ l. blocks_lines (map (block_text (naming c.args.view.module.now c.args.view.unit.0) (table_at c.args.view.module.now c.args.view.unit.0)) l))
    (drop_more c.args.blocks.now c.loop-block.block-index (record { 0 = 0 }) c.loop-block-test.true))
    c.put_block.ensures c.loop-block.invariant

pub returns : goal.returns
returns c = none-left _ _ _ _ (at_drop_all (λ l. text_of (blocks_lines (map (block_text (naming c.args.view.module.now c.args.view.unit.0) (table_at c.args.view.module.now c.args.view.unit.0)) l))) c.args.blocks.now c.loop-block.block-index c.loop-block-test.false) c.loop-block.invariant
