use Rattle.std.proofs.Common.{◌++◌, length, map}
use Rattle.lh_emit.specs.Operands.{without_type}
use Rattle.lh_emit.proofs.Bare.{Adds}
use Rattle.lh_emit.proofs.operands.push_bare.Given as goal

abbrev pub invariant-loop-left : goal.invariant-loop-left
invariant-loop-left l = Adds (l.fn.operands ++ map without_type l.values) l.operands l.left

abbrev pub decreases-loop-left : goal.decreases-loop-left
decreases-loop-left l = length l.left
