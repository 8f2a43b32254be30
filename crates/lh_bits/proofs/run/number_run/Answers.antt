use Rattle.std.proofs.Common.{arith}
use Rattle.lh_bits.proofs.PackedNumbers.{halves, halves-lt, halves_bit}
use Rattle.lh_bits.proofs.run.number_run.Goals as goal

pub returns-clause-small : goal.returns-clause-small
returns-clause-small c = rw (halves c.window-high.result c.window-low.result c.window-high.type_inv c.window-low.ensures.small)
    (halves-lt c.args.width c.window-high.result c.window-low.result (omega arith) c.window-high.ensures.small c.window-low.ensures.small)

pub returns-clause-each : goal.returns-clause-each
returns-clause-each c = λ j b. rw (halves c.window-high.result c.window-low.result c.window-high.type_inv c.window-low.ensures.small)
    (halves_bit c.args.width c.args.at c.window-high.result c.window-low.result j c.args.words.now c.window-low.ensures.small c.window-low.ensures.each c.window-high.ensures.each b)
