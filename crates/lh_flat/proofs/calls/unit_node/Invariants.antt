use Rattle.std.proofs.Common.{◌≡◌, drop}
use Rattle.lh_flat.specs.Graph.{node_of, with_blocks}
use Rattle.lh_flat.proofs.calls.unit_node.Given as goal

abbrev pub invariant-loop-block : goal.invariant-loop-block
invariant-loop-block l = with_blocks l.view.module.now l.view.unit.0 l.node (drop l.block-index l.block-items) ≡ node_of l.view.module.now l.view.unit.0
