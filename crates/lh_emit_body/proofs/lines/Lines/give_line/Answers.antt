use Rattle.std.proofs.Common.{length}
use Rattle.lh_emit_body.specs.Lines.{most_lines}
use Rattle.lh_emit_body.proofs.AddedLines.{not-all, gives-named}
use Rattle.lh_emit_body.proofs.lines.Lines.give_line.Goals as goal

pub returns : goal.returns
returns c =
    gives-named c.args.self.now c.add.new.self c.args.inst c.requires.room c.requires.named (not-all (length c.args.self.now.lines) most_lines c.requires.short)
    c.name_next.new.self c.in-Ok.value c.in-Ok.ensures c.in_ok-add.ensures.added c.add.ensures.names c.add.ensures.fresh
