use Rattle.std.proofs.Common.{take}
use Rattle.lh_lower.specs.Lowers.{IsLowering}
use Rattle.lh_lower.proofs.lowering.lower.Given as goal

abbrev pub invariant-loop-item : goal.invariant-loop-item
invariant-loop-item l = IsLowering l.verified l.lowering (take l.item-index l.items)
