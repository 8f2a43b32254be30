use Rattle.std.proofs.Common.{◌≡◌, drop}
use Rattle.lh_unit.specs.Numerals.{digits_from}
use Rattle.lh_read_pieces.proofs.numbers.digits.Given as goal

abbrev pub invariant-loop-b : goal.invariant-loop-b
invariant-loop-b l = digits_from l.n (drop l.b-index l.text) ≡ digits_from 0 l.text
