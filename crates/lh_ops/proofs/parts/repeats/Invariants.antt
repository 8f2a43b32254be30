use Rattle.std.proofs.Common.{◌≡◌, replicate}
use Rattle.lh_types.specs.ValueOf.{datum_of}
use Rattle.lh_ops.proofs.parts.repeats.Given as goal

abbrev pub invariant-loop : goal.invariant-loop
invariant-loop l = l.list ≡ replicate l.counter (datum_of l.v)
