use Rattle.std.proofs.Common.{◌≡◌, ◌<◌, ◌^◌, drop}
use Rattle.lh_unit.specs.Numerals.{digits_from}
use Rattle.lh_args.proofs.number.number.Given as goal

abbrev pub invariant-loop-b : goal.invariant-loop-b
invariant-loop-b l =
    record {
      so_far : digits_from l.n (drop l.b-index l.word) ≡ digits_from 0 l.word;
      small : l.n < 10 ^ l.b-index;
    }
