use Rattle.lh_elab.proofs.InstanceGraph.{GraphTo}
use Rattle.lh_elab.proofs.graph.graph.Given as goal

abbrev pub invariant-loop-unit : goal.invariant-loop-unit
invariant-loop-unit l = GraphTo l.m l.unit l.nodes.items
