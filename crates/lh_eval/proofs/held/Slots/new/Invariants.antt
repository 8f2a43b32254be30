use Rattle.std.proofs.Common.{◌≡◌, ◌≤◌, replicate, None, vec_len, vec_capacity}
use Rattle.lh_eval.proofs.held.Slots.new.Given as goal

abbrev pub invariant-loop-i : goal.invariant-loop-i
invariant-loop-i l = record {
  items : l.slots.items ≡ replicate l.i None;
  count : vec_len l.slots ≡ l.i;
  room : l.len ≤ vec_capacity l.slots;
}
