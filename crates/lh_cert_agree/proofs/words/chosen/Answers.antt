use Rattle.std.proofs.Common.{◌||◌, ◌&&◌, ◌∙◌, bit_and}
use Rattle.lh_cert_agree.specs.Gates.{bit_of_number}
use Rattle.lh_cert_agree.proofs.Bits.{bit_of_and, bit_of_or, chosen_bit}
use Rattle.lh_cert_agree.proofs.words.chosen.Goals as goal

pub returns : goal.returns
returns c = λ i l.
    let a = bit_of_and c.args.c c.args.t i in
    let b = bit_of_and c.opposite.result c.args.f i in
    let o = c.opposite.ensures i l in
    bit_of_or (bit_and c.args.c c.args.t) (bit_and c.opposite.result c.args.f) i ∙ (λ j. a j || b j)
    ∙ (λ j. (bit_of_number c.args.c i && bit_of_number c.args.t i) || (o j && bit_of_number c.args.f i))
    ∙ chosen_bit (bit_of_number c.args.c i) (bit_of_number c.args.f i) (bit_of_number c.args.t i)
