use Rattle.std.proofs.Common.{◌/◌, arith, ◌∙◌}
use Rattle.lh_bits.proofs.WordBits.{and_ones_bit, read_one, read_two}
use Rattle.lh_bits.proofs.word.window.Goals as goal
use Rattle.lh_bits.proofs.word.window.Goals.{then-s-n-gt64, else-s-n-gt64}

pub returns-clause-each : goal.returns-clause-each
returns-clause-each c = λ j h. rw c.ones_below.ensures (and_ones_bit c.if-s-n-gt64.x c.args.n j h ∙ elim c.if-s-n-gt64.branch [
  | then-s-n-gt64 w ↦ rw w.x-is (read_two c.args.words.now c.args.at j (omega (arith, c.type_inv.words (c.args.at / 64))) (omega arith))
  | else-s-n-gt64 w ↦ rw w.x-is (read_one c.args.words.now c.args.at c.args.n j (omega arith) h)
])
