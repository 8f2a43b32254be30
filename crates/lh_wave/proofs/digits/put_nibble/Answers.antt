use Rattle.std.proofs.Common.{arith}
use Rattle.lh_wave.proofs.Nibbles.{nibble-digits, nibble-put}
use Rattle.lh_wave.proofs.digits.put_nibble.Goals as goal

pub returns : goal.returns
returns c = nibble-put c.args.digits.now c.args.at c.args.bits _ (nibble-digits c.args.bits c.requires.four) (omega (arith, c.told-digits, c.requires.within))
