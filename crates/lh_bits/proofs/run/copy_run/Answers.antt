use Rattle.std.proofs.Common.{◌≡◌, ◌+◌, ap, ◌∙◌, arith}
use Rattle.lh_bits.specs.Flags.{word_bit}
use Rattle.lh_bits.proofs.FlagRuns.{written_more}
use Rattle.lh_bits.proofs.run.copy_run.Goals as goal

pub loop-done-preserved : goal.loop-done-preserved
loop-done-preserved c = record {
  inside = omega arith;
  before = λ i h. c.put_window.ensures.before i (omega arith) ∙ c.loop-done.invariant.before i h;
  each = written_more (λ j. word_bit c.args.from.now (c.args.at + j)) c.loop-done.done c.in_word-n.result c.args.lo c.window-x.result c.put_window.new.words c.loop-done.to c.loop-done.invariant.each
      c.put_window.ensures.before c.put_window.ensures.each (λ j h.
      let e : c.args.at + c.loop-done.done + j ≡ c.args.at + (c.loop-done.done + j) = omega arith in
      c.window-x.ensures.each j h ∙ ap (λ i. word_bit c.args.from.now i) e);
  after = λ i h. c.put_window.ensures.after i (omega arith) ∙ c.loop-done.invariant.after i (omega arith);
}
