use Rattle.lh_bits.proofs.LawProofs.{bits_of_part}
use Rattle.lh_bits.proofs.laws.bits_of_part.Goals as goal

pub returns : goal.returns
returns c = bits_of_part
