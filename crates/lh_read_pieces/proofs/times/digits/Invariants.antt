use Rattle.std.proofs.Common.{◌≡◌, ◌+◌, drop}
use Rattle.lh_read_pieces.specs.Times.{digit_run}
use Rattle.lh_read_pieces.proofs.times.digits.Given as goal

abbrev pub invariant-loop-i : goal.invariant-loop-i
invariant-loop-i l = digit_run (drop l.i l.text) + l.i ≡ digit_run l.text
