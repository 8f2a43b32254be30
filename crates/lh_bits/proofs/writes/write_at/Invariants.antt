use Rattle.std.proofs.Common.{◌≡◌, ◌<◌, length, drop, slice_get}
use Rattle.lh_bits.specs.Writes.{bits_of}
use Rattle.lh_bits.proofs.writes.write_at.Given as goal

abbrev pub invariant-loop-run : goal.invariant-loop-run
invariant-loop-run l = record {
  within : l.rest < length (bits_of (drop l.run-index l.runs));
  same : slice_get (bits_of l.runs) l.k ≡ slice_get (bits_of (drop l.run-index l.runs)) l.rest;
}
