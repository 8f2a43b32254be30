use Rattle.std.proofs.Common.{length}
use Rattle.lh_emit.proofs.EmptyEntity.{AddingArgs}
use Rattle.lh_emit.proofs.emitter.arguments.Given as goal

abbrev pub invariant-loop-left : goal.invariant-loop-left
invariant-loop-left l = AddingArgs l.names l.lines l.left

abbrev pub decreases-loop-left : goal.decreases-loop-left
decreases-loop-left l = length l.left
