use Rattle.std.proofs.Common.{◌≡◌, ◌≤◌, replicate, None, vec_len, vec_capacity}
use Rattle.lh_cert_read.proofs.known.KnownValues.new.Given as goal

abbrev pub invariant-loop-i : goal.invariant-loop-i
invariant-loop-i l = record {
  items : l.values.items ≡ replicate l.i None;
  count : vec_len l.values ≡ l.i;
  room : l.count ≤ vec_capacity l.values;
}
