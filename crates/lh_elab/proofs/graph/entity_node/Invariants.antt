use Rattle.std.proofs.Common.{◌≡◌, drop}
use Rattle.lh_unit.specs.Arena.{table_at}
use Rattle.lh_unit.specs.Table.{insts_at}
use Rattle.lh_elab.specs.Graph.{no_node, node_from}
use Rattle.lh_elab.proofs.graph.entity_node.Given as goal

abbrev pub invariant-loop-inst : goal.invariant-loop-inst
invariant-loop-inst l = node_from (table_at l.m l.unit.0) l.node (drop l.inst-index l.inst-items) ≡ node_from (table_at l.m l.unit.0) no_node (insts_at (table_at l.m l.unit.0) 0)
