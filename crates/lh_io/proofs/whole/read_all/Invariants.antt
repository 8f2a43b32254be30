use Rattle.std.proofs.Common.{◌≡◌, ◌≤◌, ◌-◌, vec_len}
use Rattle.lh_types.specs.Raised.{raised}
use Rattle.lh_io.proofs.Steps.{ReadSoFar}
use Rattle.lh_io.proofs.whole.read_all.Given as goal

abbrev pub invariant-turns : goal.invariant-turns
invariant-turns g l = record {
  few : vec_len l.bytes ≤ l.limit;
  taken : g.S.Source.taken l.src ≡ raised (g.S.Source.taken l.fn.src) (vec_len l.bytes);
  read : ReadSoFar (g.S.Source.left l.fn.src) (g.S.Source.left l.src) l.bytes.items;
  never_fall : g.S.Source.faults l.fn.src ≤ g.S.Source.faults l.src;
}

abbrev pub decreases-turns : goal.decreases-turns
decreases-turns g l = l.limit - vec_len l.bytes
