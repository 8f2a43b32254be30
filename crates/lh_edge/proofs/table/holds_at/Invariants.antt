use Rattle.std.proofs.Common.{◌≤◌, nat_eq, drop, length}
use Rattle.std.specs.HashSet as hash
use Rattle.lh_term.specs.Arena.{trees_at}
use Rattle.lh_edge.specs.Valuations.{holds}
use Rattle.lh_edge.specs.Reached.{TellsPassed}
use Rattle.lh_edge.specs.Steps.{numbered}
use Rattle.lh_edge.proofs.table.holds_at.Given as goal

abbrev pub invariant-loop-k : goal.invariant-loop-k
invariant-loop-k l = record {
  within : l.k ≤ length l.joined;
  told : TellsPassed l.terms (holds (numbered (trees_at l.terms l.atoms) l.valuation)) (hash.contains nat_eq l.values) (drop l.k l.joined);
}

abbrev pub decreases-loop-k : goal.decreases-loop-k
decreases-loop-k l = l.k
