use Rattle.std.proofs.Common.{◌≡◌, ℕ, ◌+◌, ◌-◌, length, get_or, None}
use Rattle.lh_emit.proofs.values.make_room.Given as goal

abbrev pub invariant-loop-items : goal.invariant-loop-items
invariant-loop-items l = (x : ℕ) → get_or l.items.items x None ≡ get_or l.fn.items.items x None

abbrev pub decreases-loop-items : goal.decreases-loop-items
decreases-loop-items l = l.place + 1 - length l.items.items
