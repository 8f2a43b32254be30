use Rattle.std.proofs.Common.{sym, subst}
use Rattle.lh_unit_graph.specs.Measures.{NodesWithin}
use Rattle.lh_elab.specs.Measures.{measuring}
use Rattle.lh_elab.specs.Graph.{IsGraph}
use Rattle.lh_elab.proofs.Placed.{found-within}
use Rattle.lh_elab.proofs.InstanceGraph.{graph-within}
use Rattle.lh_elab.proofs.refusal.measured.Goals as goal

pub measure_of-requires-clause-within : goal.measure_of-requires-clause-within
measure_of-requires-clause-within c = subst (NodesWithin measuring) (sym c.as_slice.ensures.value)
    (graph-within c.args.m.now c.in_ok-nodes.nodes.items c.in_ok-nodes.ensures.sound c.in_ok-nodes.ensures.graph)

pub returns-clause-placed : goal.returns-clause-placed
returns-clause-placed c =
    let a = c.args.m.now in
    let within : NodesWithin measuring c.as_slice.result.now = subst (NodesWithin measuring) (sym c.as_slice.ensures.value)
    (graph-within a c.in_ok-nodes.nodes.items c.in_ok-nodes.ensures.sound c.in_ok-nodes.ensures.graph) in
    found-within a c.as_slice.result.now c.args.top.0 c.measure_of.result c.in_ok-nodes.ensures.sound (subst (IsGraph a) (sym c.as_slice.ensures.value) c.in_ok-nodes.ensures.graph) within
    c.measure_of.ensures.measures
