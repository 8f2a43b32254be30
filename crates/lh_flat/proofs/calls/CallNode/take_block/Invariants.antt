use Rattle.std.proofs.Common.{◌≡◌, drop}
use Rattle.lh_flat.specs.Graph.{with_block, with_insts}
use Rattle.lh_flat.proofs.calls.CallNode.take_block.Given as goal

abbrev pub invariant-loop-inst : goal.invariant-loop-inst
invariant-loop-inst l = with_insts l.view.module.now l.view.unit.0 l.self (drop l.inst-index l.inst-items) ≡ with_block l.view.module.now l.view.unit.0 l.fn.self l.fn.block
