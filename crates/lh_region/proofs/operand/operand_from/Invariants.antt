use Rattle.std.proofs.Common.{◌≡◌, drop}
use Rattle.lh_region.specs.Operands.{operand_in}
use Rattle.lh_region.proofs.operand.operand_from.Given as goal

abbrev pub invariant-loop-edge : goal.invariant-loop-edge
invariant-loop-edge l = operand_in l.block (drop l.edge-index l.edges) ≡ operand_in l.block l.edges
