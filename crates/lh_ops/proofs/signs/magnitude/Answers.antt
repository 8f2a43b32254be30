use Rattle.std.proofs.Common.{◌∙◌, sym}
use Rattle.lh_ops.proofs.SignLemmas.{negated_abs}
use Rattle.lh_ops.proofs.signs.magnitude.Goals as goal

pub returns-then-is_negative : goal.returns-then-is_negative
returns-then-is_negative c = c.difference.ensures ∙ negated_abs c.args.width c.args.a c.requires.fits (sym c.is_negative.ensures ∙ c.if-is_negative.true)
