use Rattle.lh_emit_body.proofs.AddedLines.{no-room, begins-none}
use Rattle.lh_emit_body.proofs.lines.Lines.new.Goals as goal

pub returns-clause-room : goal.returns-clause-room
returns-clause-room c = no-room record { fresh = c.new.result; names = c.new-2.result; lines = c.new-3.result } c.new.ensures.fresh.count c.new.ensures.next c.new-3.ensures

pub returns-clause-begins : goal.returns-clause-begins
returns-clause-begins c = begins-none record { fresh = c.new.result; names = c.new-2.result; lines = c.new-3.result } c.new.ensures.fresh c.new.ensures.next c.new-3.ensures c.new-2.ensures
