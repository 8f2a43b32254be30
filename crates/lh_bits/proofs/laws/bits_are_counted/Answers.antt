use Rattle.lh_bits.proofs.LawProofs.{bits_are_counted}
use Rattle.lh_bits.proofs.laws.bits_are_counted.Goals as goal

pub returns : goal.returns
returns c = bits_are_counted
