use Rattle.std.proofs.Common.{◌∙◌, arith}
use Rattle.lh_ops.proofs.WordLemmas.{mod_word}
use Rattle.lh_ops.proofs.words.product.Goals as goal

pub returns : goal.returns
returns c = c.cut.ensures ∙ mod_word c.args.width _ (omega arith)
