use Rattle.std.proofs.Common.{sym, arith}
use Rattle.lh_cert_agree.proofs.Bits.{bit_above}
use Rattle.lh_cert_agree.proofs.words.bit_of.Goals as goal

pub returns-else-j-lt64 : goal.returns-else-j-lt64
returns-else-j-lt64 c = sym (bit_above c.args.n c.args.j (omega arith) (omega (arith, c.if-j-lt64.false)))
