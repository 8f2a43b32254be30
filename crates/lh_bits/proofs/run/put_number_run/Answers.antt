use Rattle.std.proofs.Common.{◌∙◌, arith}
use Rattle.std.specs.Int.{bit_at}
use Rattle.std.specs.Int.RustNames.{bit_and}
use Rattle.lh_bits.proofs.FlagRuns.{written_more}
use Rattle.lh_bits.proofs.PackedNumbers.{shifted_bit}
use Rattle.lh_bits.proofs.run.put_number_run.Goals as goal

pub loop-done-preserved : goal.loop-done-preserved
loop-done-preserved c = record {
  inside = omega arith;
  before = λ i h. c.put_window.ensures.before i (omega arith) ∙ c.loop-done.invariant.before i h;
  each = written_more (λ j. bit_at c.args.number j) c.loop-done.done c.in_word-n.result c.args.at (bit_and c.above.result c.ones_below.result) c.put_window.new.words c.loop-done.words
      c.loop-done.invariant.each c.put_window.ensures.before c.put_window.ensures.each
      (λ j h. rw (c.ones_below.ensures, c.above.ensures) (shifted_bit c.args.number c.loop-done.done c.in_word-n.result j h));
  after = λ i h. c.put_window.ensures.after i (omega arith) ∙ c.loop-done.invariant.after i (omega arith);
}
