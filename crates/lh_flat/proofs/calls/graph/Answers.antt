use Rattle.std.proofs.Common.{arith, ◌∙◌}
use Rattle.lh_flat.specs.Graph.{node_of}
use Rattle.lh_flat.proofs.CallGraph.{GraphTo-none, GraphTo-push, GraphTo-all}
use Rattle.lh_flat.proofs.calls.graph.Goals as goal

pub loop-unit-init : goal.loop-unit-init
loop-unit-init c = GraphTo-none _ _ c.new-nodes.ensures.items

pub loop-unit-preserved : goal.loop-unit-preserved
loop-unit-preserved c =
    GraphTo-push c.args.m.now c.loop-unit.unit c.loop-unit.nodes.items c.put_node.new.nodes.items c.in_ok-unit_node.field-0 c.loop-unit.invariant c.in_ok-put_node.ensures
    (c.in_ok-unit_node.ensures ∙ (λ i. node_of (c.unit.ensures.module i) (c.unit.ensures.unit i).0))

pub returns : goal.returns
returns c = record {
  graph = GraphTo-all c.args.m.now c.loop-unit.unit c.loop-unit.nodes.items (omega (arith, c.units-unit-end.ensures.count)) c.loop-unit.invariant;
  sound = c.units-unit-end.ensures.sound;
}
