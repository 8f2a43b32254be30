use Rattle.std.proofs.Common.{◌≡◌, ◌++◌, ◌≤◌, drop, length, map}
use Rattle.lh_emit.specs.Underway.{tops}
use Rattle.lh_emit.specs.declared.tasks.Task.TheVariants.{Need}
use Rattle.lh_emit.proofs.tasks.push_needs.Given as goal

abbrev pub invariant-loop-k : goal.invariant-loop-k
invariant-loop-k l = record { within : l.k ≤ length l.terms; pushed : map Need (drop l.k l.terms) ++ tops l.fn.tasks.items ≡ tops l.tasks.items }

abbrev pub decreases-loop-k : goal.decreases-loop-k
decreases-loop-k l = l.k
