use Rattle.std.proofs.Common.{◌≡◌, ◌++◌, drop, map}
use Rattle.lh_eval.specs.HeldOf.{maybe_held}
use Rattle.lh_eval.proofs.held.Slots.copy.Given as goal

abbrev pub invariant-loop-slot : goal.invariant-loop-slot
invariant-loop-slot l = map maybe_held l.slots.items ++ map maybe_held (drop l.slot-index l.from) ≡ map maybe_held l.from
