use Rattle.std.proofs.Common.{arith}
use Rattle.lh_lex.proofs.Classes.{white-class}
use Rattle.lh_lex.proofs.is_white.Goals as goal

pub returns : goal.returns
returns c = rw c.from.ensures (white-class c.args.b (omega arith))
