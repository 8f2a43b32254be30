use Rattle.std.proofs.Common.{◌≡◌, ◌≤◌, drop, length}
use Rattle.lh_term.specs.Tree.{past_of}
use Rattle.lh_term.specs.Arena.{trees_at}
use Rattle.lh_edge.specs.Steps.{kept_bits}
use Rattle.lh_edge.proofs.shown.EdgePart.kept_bits.Given as goal

abbrev pub invariant-loop-k : goal.invariant-loop-k
invariant-loop-k l = record {
  within : l.k ≤ length l.self.atoms.now;
  so_far : l.kept ≡ kept_bits (past_of l.part) (trees_at l.self.terms.now (drop l.k l.self.atoms.now));
}

abbrev pub decreases-loop-k : goal.decreases-loop-k
decreases-loop-k l = l.k
