use Rattle.lh_unit.specs.Contents.{with_block}
use Rattle.lh_unit.specs.Arena.{label_name_at}
use Rattle.lh_unit.specs.Builders.{HasLabels}
use Rattle.lh_unit.proofs.ContentsLemmas.{open-of}
use Rattle.lh_lower_copy.proofs.Opened.{becomes-by, no-label-twice}
use Rattle.lh_lower_copy.proofs.adding.put_block.Goals as goal

pub add_block-requires-clause-labels : goal.add_block-requires-clause-labels
add_block-requires-clause-labels c = open-of c.args.m.now c.args.unit (λ t. HasLabels t.kind) c.requires.opened c.requires.labels

pub wanting-requires : goal.wanting-requires
wanting-requires c =
    no-label-twice c.in-Err.fault c.args.m.now c.add_block.new.self c.args.unit (label_name_at c.args.m.now c.args.unit.0 c.args.block.0) c.requires.opened c.requires.undefined c.in-Err.ensures

pub returns-in-Ok : goal.returns-in-Ok
returns-in-Ok c = becomes-by c.args.m.now c.add_block.new.self c.args.unit (with_block (label_name_at c.args.m.now c.args.unit.0 c.args.block.0)) c.requires.opened c.in-Ok.ensures.1
