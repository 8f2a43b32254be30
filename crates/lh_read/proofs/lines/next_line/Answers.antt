use Rattle.lh_read.proofs.FirstLines.{lines-Some, lines-None}
use Rattle.lh_read.proofs.lines.next_line.Goals as goal

pub returns-in-Some-clause-lines : goal.returns-in-Some-clause-lines
returns-in-Some-clause-lines c = lines-Some c.args.text.now c.in-Some.i c.in-Some.ensures

pub returns-in-None-clause-lines : goal.returns-in-None-clause-lines
returns-in-None-clause-lines c = lines-None c.args.text.now c.requires c.in-None.ensures
