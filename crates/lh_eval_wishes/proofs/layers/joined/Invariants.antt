use Rattle.std.proofs.Common.{◌≡◌, length}
use Rattle.lh_eval_wishes.specs.Over.{over, stacked}
use Rattle.lh_eval_wishes.proofs.layers.joined.Given as goal

abbrev pub invariant-loop-below : goal.invariant-loop-below
invariant-loop-below l = over (stacked l.layers.items) l.top ≡ over (stacked l.initial.layers.items) l.initial.top

abbrev pub decreases-loop-below : goal.decreases-loop-below
decreases-loop-below l = length l.layers.items
