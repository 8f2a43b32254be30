use Rattle.std.proofs.Common.{◌≡◌, ◌≤◌, drop, length}
use Rattle.lh_term.specs.Tree.{now_of}
use Rattle.lh_term.specs.Arena.{trees_at}
use Rattle.lh_edge.specs.Steps.{bit_of_atom}
use Rattle.lh_edge.proofs.shown.EdgePart.now_bit.Given as goal

abbrev pub invariant-loop-k : goal.invariant-loop-k
invariant-loop-k l = record {
  within : l.k ≤ length l.self.atoms.now;
  so_far : l.bit ≡ bit_of_atom (trees_at l.self.terms.now (drop l.k l.self.atoms.now)) (now_of l.part);
}

abbrev pub decreases-loop-k : goal.decreases-loop-k
decreases-loop-k l = l.k
