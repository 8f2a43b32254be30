use Rattle.std.proofs.Common.{sym, ◌∙◌}
use Rattle.lh_cert_agree.proofs.Bits.{bit_of_ones}
use Rattle.lh_cert_agree.proofs.words.repeated.Goals as goal

pub returns-then-bit : goal.returns-then-bit
returns-then-bit c = λ i l. bit_of_ones i l ∙ sym c.if-bit.true
