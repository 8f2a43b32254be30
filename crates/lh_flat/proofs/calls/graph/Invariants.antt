use Rattle.lh_flat.proofs.CallGraph.{GraphTo}
use Rattle.lh_flat.proofs.calls.graph.Given as goal

abbrev pub invariant-loop-unit : goal.invariant-loop-unit
invariant-loop-unit l = GraphTo l.m l.unit l.nodes.items
