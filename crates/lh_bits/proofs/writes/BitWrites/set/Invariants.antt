use Rattle.std.proofs.Common.{◌≡◌, length, drop}
use Rattle.lh_bits.specs.Writes.{bits_of, written, BitsWithin}
use Rattle.lh_bits.proofs.writes.BitWrites.set.Given as goal

abbrev pub invariant-loop-run : goal.invariant-loop-run
invariant-loop-run l = record {
  within : BitsWithin (length l.now) (bits_of (drop l.run-index l.run-items));
  writes : written (bits_of (drop l.run-index l.run-items)) l.now ≡ written (bits_of l.run-items) l.fn.now;
}
