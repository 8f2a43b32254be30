use Rattle.std.proofs.Common.{arith}
use Rattle.lh_lex.proofs.Classes.{mark-class}
use Rattle.lh_lex.proofs.is_mark.Goals as goal

pub returns : goal.returns
returns c = rw c.from.ensures (mark-class c.args.b (omega arith))
