use Rattle.lh_bits.proofs.LawProofs.{bits_with_part}
use Rattle.lh_bits.proofs.laws.bits_with_part.Goals as goal

pub returns : goal.returns
returns c = bits_with_part
