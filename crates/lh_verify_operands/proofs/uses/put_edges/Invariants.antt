use Rattle.std.proofs.Common.{◌≡◌, ◌++◌, drop}
use Rattle.lh_verify_operands.specs.Uses.{edges_used}
use Rattle.lh_verify_operands.proofs.uses.put_edges.Given as goal

abbrev pub invariant-loop-edge : goal.invariant-loop-edge
invariant-loop-edge l = l.list ++ edges_used (drop l.edge-index l.edges) ≡ l.initial.list ++ edges_used l.edges
