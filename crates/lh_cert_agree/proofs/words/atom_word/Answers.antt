use Rattle.std.proofs.Common.{sym, ◌∙◌, arith}
use Rattle.lh_cert_agree.proofs.Bits.{mask_bits, high_bit}
use Rattle.lh_cert_agree.proofs.words.atom_word.Goals as goal

pub returns-then-j-lt6 : goal.returns-then-j-lt6
returns-then-j-lt6 c = λ i l. mask_bits c.args.j c.args.block i c.if-j-lt6.true l

pub returns-else-j-lt6 : goal.returns-else-j-lt6
returns-else-j-lt6 c = λ i l. c.repeated.ensures i l ∙ c.bit_of.ensures ∙ sym (high_bit c.args.block i c.args.j l (omega (arith, c.if-j-lt6.false)))
