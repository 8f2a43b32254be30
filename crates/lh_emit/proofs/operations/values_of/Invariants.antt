use Rattle.std.proofs.Common.{◌≡◌, ◌++◌, ◌-◌, Some, map, drop, length}
use Rattle.lh_emit.specs.Values.{value_in}
use Rattle.lh_emit.proofs.operations.values_of.Given as goal

abbrev pub invariant-loop-k : goal.invariant-loop-k
invariant-loop-k l = map Some l.list ++ map (value_in l.values) (drop l.k l.of) ≡ map (value_in l.values) l.of

abbrev pub decreases-loop-k : goal.decreases-loop-k
decreases-loop-k l = length l.of - l.k
