use Rattle.std.proofs.Common.{◌≡◌, ◌++◌, ◌-◌, drop, length}
use Rattle.lh_emit.specs.Operations.{each_with_type}
use Rattle.lh_emit.proofs.operations.each_typed.Given as goal

abbrev pub invariant-loop-k : goal.invariant-loop-k
invariant-loop-k l = l.operands ++ each_with_type l.terms (drop l.k l.of) (drop l.k l.values) ≡ each_with_type l.terms l.of l.values

abbrev pub decreases-loop-k : goal.decreases-loop-k
decreases-loop-k l = length l.values - l.k
