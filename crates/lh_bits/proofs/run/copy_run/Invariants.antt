use Rattle.std.proofs.Common.{◌≡◌, ℕ, ◌+◌, ◌-◌, ◌<◌, ◌≤◌}
use Rattle.lh_bits.specs.Flags.{word_bit}
use Rattle.lh_bits.proofs.run.copy_run.Given as goal

abbrev pub invariant-loop-done : goal.invariant-loop-done
invariant-loop-done l = record {
  inside : l.done ≤ l.len;
  before : (i : ℕ) → i < l.lo → word_bit l.to i ≡ word_bit l.fn.to i;
  each : (j : ℕ) → j < l.done → word_bit l.to (l.lo + j) ≡ word_bit l.from (l.at + j);
  after : (i : ℕ) → l.lo + l.done ≤ i → word_bit l.to i ≡ word_bit l.fn.to i;
}

abbrev pub decreases-loop-done : goal.decreases-loop-done
decreases-loop-done l = l.len - l.done
