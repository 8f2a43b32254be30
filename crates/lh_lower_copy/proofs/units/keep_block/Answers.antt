use Rattle.lh_unit.specs.Arena.{unit_text_at}
use Rattle.lh_lower_copy.specs.Changing.{with_lines, with_labelled}
use Rattle.lh_lower_copy.specs.Kept.{block_at}
use Rattle.lh_lower_copy.proofs.Rests.{then-becomes}
use Rattle.lh_lower_copy.proofs.units.keep_block.Goals as goal

pub returns : goal.returns
returns c =
    let b = block_at c.args.from.now c.args.unit.0 c.args.block in
    then-becomes c.keep_insts.result c.args.m.now c.keep_label.new.m c.keep_insts.new.m c.args.unit (with_labelled b.label (unit_text_at c.args.m.now c.args.unit.0)) (with_lines b.lines)
    c.requires.opened c.in_ok-keep_label.ensures c.keep_insts.ensures
