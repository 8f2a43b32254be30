use Rattle.std.proofs.Common.{arith}
use Rattle.lh_lex.proofs.Classes.{name-class}
use Rattle.lh_lex.proofs.is_name.Goals as goal

pub returns : goal.returns
returns c = rw c.from.ensures (name-class c.args.b (omega arith))
