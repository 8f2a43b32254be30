use Rattle.std.proofs.Common.{◌<◌, length}
use Rattle.lh_unit.specs.Contents.{with_line}
use Rattle.lh_unit.specs.Builders.{line_text_at}
use Rattle.lh_unit.proofs.ContentsLemmas.{open-of}
use Rattle.lh_lower_copy.proofs.Opened.{becomes-by, has-room}
use Rattle.lh_lower_copy.proofs.adding.put_inst.Goals as goal

pub add_inst-requires-clause-begun : goal.add_inst-requires-clause-begun
add_inst-requires-clause-begun c = open-of c.args.m.now c.args.unit (λ t. 0 < length t.blocks) c.requires.opened c.requires.begun

pub wanting-requires : goal.wanting-requires
wanting-requires c =
    has-room c.in-Err.fault c.args.m.now c.add_inst.new.self c.args.unit (line_text_at c.args.m.now c.args.unit.0 c.args.value c.args.inst) c.requires.opened c.requires.room c.in-Err.ensures

pub returns-in-Ok : goal.returns-in-Ok
returns-in-Ok c = becomes-by c.args.m.now c.add_inst.new.self c.args.unit (with_line (line_text_at c.args.m.now c.args.unit.0 c.args.value c.args.inst)) c.requires.opened c.in-Ok.ensures.1
