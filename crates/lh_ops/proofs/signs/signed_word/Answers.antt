use Rattle.std.proofs.Common.{◌∙◌, sym, arith}
use Rattle.lh_ops.proofs.WordLemmas.{wrapped_neg}
use Rattle.lh_ops.proofs.signs.signed_word.Goals as goal

pub returns-then-negative : goal.returns-then-negative
returns-then-negative c = rw c.if-negative.true (c.difference.ensures ∙ sym (wrapped_neg c.args.width c.args.magnitude (omega arith)))
