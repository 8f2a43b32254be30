use Rattle.std.proofs.Common.{◌≡◌, drop}
use Rattle.lh_exec.specs.Taking.{edge_in}
use Rattle.lh_exec.proofs.jumps.edge_value.Given as goal

abbrev pub invariant-loop-edge : goal.invariant-loop-edge
invariant-loop-edge l = edge_in l.from (drop l.edge-index l.edges) ≡ edge_in l.from l.edges
