use Rattle.std.proofs.Common.{arith, rules}
use Rattle.lh_bits.proofs.FlagRuns.{same_more, not_same}
use Rattle.lh_bits.proofs.run.same_run.Goals as goal

pub returns-then-window : goal.returns-then-window
returns-then-window c = (
  λ f. absurd (search rules),
  λ e. absurd (not_same c.args.len c.loop-done.done c.in_word-n.result c.args.lo c.window.result c.window-in-loop-done.result c.args.a.now c.args.b.now (omega arith) c.window.ensures.small
      c.window-in-loop-done.ensures.small c.if-window.true c.window.ensures.each c.window-in-loop-done.ensures.each e),
)

pub loop-done-preserved : goal.loop-done-preserved
loop-done-preserved c = record {
  inside = omega arith;
  same = same_more c.loop-done.done c.in_word-n.result c.args.lo c.window.result c.window-in-loop-done.result c.args.a.now c.args.b.now c.loop-done.invariant.same (search rules) c.window.ensures.each
      c.window-in-loop-done.ensures.each;
}
