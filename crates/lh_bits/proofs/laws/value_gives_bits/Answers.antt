use Rattle.lh_bits.proofs.LawProofs.{value_gives_bits}
use Rattle.lh_bits.proofs.laws.value_gives_bits.Goals as goal

pub returns : goal.returns
returns c = value_gives_bits
