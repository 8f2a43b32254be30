use Rattle.std.proofs.Common.{sym, arith}
use Rattle.lh_bits.proofs.PackedNumbers.{none_above}
use Rattle.lh_bits.proofs.run.above.Goals as goal

pub returns-else-k-lt128 : goal.returns-else-k-lt128
returns-else-k-lt128 c = sym (none_above c.args.number c.args.k (omega (arith, c.ranges.number)) (omega arith))
