use Rattle.std.proofs.Common.{◌∙◌, arith}
use Rattle.lh_ops.proofs.WordLemmas.{difference_word}
use Rattle.lh_ops.proofs.words.difference.Goals as goal

pub returns : goal.returns
returns c = c.cut.ensures ∙ difference_word c.args.width c.args.a c.args.b (omega arith) (omega arith)
