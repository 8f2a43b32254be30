use Rattle.std.proofs.Common.{arith}
use Rattle.std.proofs.lemmas.Nat.{ones-le, xor_lt}
use Rattle.std.specs.Int.RustNames.{bit_xor}
use Rattle.lh_bits.specs.Flags.{flags}
use Rattle.lh_bits.proofs.FlagRuns.{length-flags}
use Rattle.lh_bits.proofs.Differ.{differing-more, differing-le}
use Rattle.lh_bits.proofs.run.differing_run.Goals as goal

pub overflow_add-count : goal.overflow_add-count
overflow_add-count c = omega (
  arith,
  differing-le (flags c.loop-done.done c.args.lo c.args.a.now) (flags c.loop-done.done c.args.lo c.args.b.now),
  length-flags c.loop-done.done c.args.lo c.args.a.now,
  ones-le c.in_word-n.result (bit_xor c.window-x.result c.window-y.result) (xor_lt c.in_word-n.result c.window-x.result c.window-y.result c.window-x.ensures.small c.window-y.ensures.small),
)

pub loop-done-preserved : goal.loop-done-preserved
loop-done-preserved c = record {
  inside = omega arith;
  counted = rw c.loop-done.invariant.counted
      (differing-more c.loop-done.done c.in_word-n.result c.args.lo c.window-x.result c.window-y.result c.args.a.now c.args.b.now c.window-x.ensures.small c.window-y.ensures.small
      c.window-x.ensures.each c.window-y.ensures.each);
}
