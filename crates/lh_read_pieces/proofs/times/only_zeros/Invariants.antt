use Rattle.std.proofs.Common.{◌≡◌, drop}
use Rattle.lh_read_pieces.specs.Times.{all_zero}
use Rattle.lh_read_pieces.proofs.times.only_zeros.Given as goal

abbrev pub invariant-loop-b : goal.invariant-loop-b
invariant-loop-b l = all_zero (drop l.b-index l.text) ≡ all_zero l.text
