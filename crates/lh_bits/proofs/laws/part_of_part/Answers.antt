use Rattle.lh_bits.proofs.LawProofs.{part_of_part}
use Rattle.lh_bits.proofs.laws.part_of_part.Goals as goal

pub returns : goal.returns
returns c = part_of_part
