use Rattle.std.proofs.Common.{◌≡◌, ℕ, ◌+◌, ◌/◌, ◌^◌, true, length}
use Rattle.lh_term.specs.Arena.{tree_at, trees, trees_at, ids_below}
use Rattle.lh_edge.specs.Steps.{numbered}
use Rattle.lh_cert_agree.proofs.gates.atom_gate.Given as goal

abbrev pub invariant-loop-left : goal.invariant-loop-left
invariant-loop-left l = record {
  within : ids_below (length l.terms) l.left ≡ true;
  counted : l.j + length l.left ≡ length l.atoms;
  same : (n : ℕ) → numbered (trees_at l.terms l.left) (n / 2 ^ l.j) (tree_at (trees l.terms) l.x) ≡ numbered (trees_at l.terms l.atoms) n (tree_at (trees l.terms) l.x);
}

abbrev pub decreases-loop-left : goal.decreases-loop-left
decreases-loop-left l = length l.left
