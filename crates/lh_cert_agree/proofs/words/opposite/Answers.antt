use Rattle.std.proofs.Common.{arith}
use Rattle.lh_cert_agree.proofs.Bits.{bit_of_opposite}
use Rattle.lh_cert_agree.proofs.words.opposite.Goals as goal

pub returns : goal.returns
returns c = λ i l. bit_of_opposite c.args.word i (omega arith) l
