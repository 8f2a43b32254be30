use Rattle.lh_ops.proofs.SignLemmas.{sign_bit}
use Rattle.lh_ops.proofs.signs.is_negative.Goals as goal

pub returns : goal.returns
returns c = sign_bit c.args.width c.args.a
