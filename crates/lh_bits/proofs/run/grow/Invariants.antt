use Rattle.std.proofs.Common.{◌≡◌, ℕ, ◌-◌, ◌≤◌, take}
use Rattle.smallvec.specs.SmallVec.{small_vec_len}
use Rattle.lh_bits.specs.Flags.{word_bit}
use Rattle.lh_bits.proofs.run.grow.Given as goal

abbrev pub invariant-loop-words : goal.invariant-loop-words
invariant-loop-words l = record {
  short : small_vec_len l.words ≤ l.wanted;
  long : l.held ≤ small_vec_len l.words;
  front : take l.held l.words.items ≡ l.fn.words.items;
  same : (i : ℕ) → word_bit l.words.items i ≡ word_bit l.fn.words.items i;
}

abbrev pub decreases-loop-words : goal.decreases-loop-words
decreases-loop-words l = l.wanted - small_vec_len l.words
