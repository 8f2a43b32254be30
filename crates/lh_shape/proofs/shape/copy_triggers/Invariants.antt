use Rattle.std.proofs.Common.{◌≡◌, take}
use Rattle.lh_shape.proofs.shape.copy_triggers.Given as goal

abbrev pub invariant-loop-trigger : goal.invariant-loop-trigger
invariant-loop-trigger l = l.to ≡ take l.trigger-index l.triggers
