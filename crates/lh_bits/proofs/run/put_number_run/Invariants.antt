use Rattle.std.proofs.Common.{◌≡◌, ℕ, ◌+◌, ◌-◌, ◌<◌, ◌≤◌}
use Rattle.std.specs.Int.{bit_at}
use Rattle.lh_bits.specs.Flags.{word_bit}
use Rattle.lh_bits.proofs.run.put_number_run.Given as goal

abbrev pub invariant-loop-done : goal.invariant-loop-done
invariant-loop-done l = record {
  inside : l.done ≤ l.width;
  before : (i : ℕ) → i < l.at → word_bit l.words i ≡ word_bit l.fn.words i;
  each : (j : ℕ) → j < l.done → word_bit l.words (l.at + j) ≡ bit_at l.number j;
  after : (i : ℕ) → l.at + l.done ≤ i → word_bit l.words i ≡ word_bit l.fn.words i;
}

abbrev pub decreases-loop-done : goal.decreases-loop-done
decreases-loop-done l = l.width - l.done
