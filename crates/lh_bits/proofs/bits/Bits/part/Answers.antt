use Rattle.lh_bits.proofs.PackedParts.{part_alone}
use Rattle.lh_bits.proofs.bits.Bits.part.Goals as goal

pub returns : goal.returns
returns c = part_alone c.args.at c.args.len c.args.self.now c.in_ok-part.part c.put_part.new.self c.requires c.in_ok-part.ensures c.put_part.ensures
