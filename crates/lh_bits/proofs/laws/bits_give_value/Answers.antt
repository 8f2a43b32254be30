use Rattle.lh_bits.proofs.LawProofs.{bits_give_value}
use Rattle.lh_bits.proofs.laws.bits_give_value.Goals as goal

pub returns : goal.returns
returns c = bits_give_value
