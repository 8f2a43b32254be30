use Rattle.lh_bits.proofs.LawProofs.{parts_are_within}
use Rattle.lh_bits.proofs.laws.parts_are_within.Goals as goal

pub returns : goal.returns
returns c = parts_are_within
