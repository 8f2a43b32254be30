use Rattle.std.proofs.Common.{◌≤◌, nat_eq, drop, length}
use Rattle.std.specs.HashSet as hash
use Rattle.lh_edge.specs.Atoms.{contains_past}
use Rattle.lh_edge.specs.Reached.{TellsPassed}
use Rattle.lh_edge.proofs.pasts.pasts_among.Given as goal

abbrev pub invariant-loop-k : goal.invariant-loop-k
invariant-loop-k l = record { within : l.k ≤ length l.made_of; told : TellsPassed l.terms contains_past (hash.contains nat_eq l.pasts) (drop l.k l.made_of) }

abbrev pub decreases-loop-k : goal.decreases-loop-k
decreases-loop-k l = l.k
