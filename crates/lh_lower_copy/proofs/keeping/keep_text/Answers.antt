use Rattle.lh_unit.specs.Arena.{unit_text_at}
use Rattle.lh_lower_copy.specs.Copying.{headed}
use Rattle.lh_lower_copy.proofs.Singly.{is-once}
use Rattle.lh_lower_copy.proofs.Texts.{same-adds, blocks-fit, text-done}
use Rattle.lh_lower_copy.proofs.keeping.keep_text.Goals as goal

pub keep_blocks-requires-clause-named : goal.keep_blocks-requires-clause-named
keep_blocks-requires-clause-named c = same-adds c.args.from.now c.args.m.now c.keep_header.new.m c.args.unit (headed (unit_text_at c.args.from.now c.args.unit.0)) c.requires.named
    c.in_ok-keep_header.ensures

pub keep_blocks-requires-clause-fit : goal.keep_blocks-requires-clause-fit
keep_blocks-requires-clause-fit c =
    blocks-fit c.args.from.now c.args.unit.0 c.args.kind (unit_text_at c.keep_header.new.m c.args.unit.0) c.requires.sound c.requires.there c.requires.kind
    (is-once c.args.from.now c.args.unit.0 c.requires.sound c.requires.there) c.in_ok-keep_header.ensures.text

pub returns : goal.returns
returns c =
    text-done c.keep_blocks.result c.args.from.now c.args.m.now c.keep_header.new.m c.keep_blocks.new.m c.args.unit c.args.kind c.requires.sound c.requires.there c.requires.kind
    (is-once c.args.from.now c.args.unit.0 c.requires.sound c.requires.there) c.in_ok-keep_header.ensures c.keep_blocks.ensures
