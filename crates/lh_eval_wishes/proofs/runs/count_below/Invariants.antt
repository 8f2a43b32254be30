use Rattle.std.proofs.Common.{◌≤◌, ◌-◌, length, take}
use Rattle.lh_types.specs.Wish.{due_bit}
use Rattle.lh_eval_wishes.specs.Runs.{runs_wish, AllBelow}
use Rattle.lh_eval_wishes.proofs.runs.count_below.Given as goal

abbrev pub invariant-loop-low : goal.invariant-loop-low
invariant-loop-low l = record {
  order : l.low ≤ l.high;
  within : l.high ≤ length l.runs;
  below : AllBelow (due_bit l.due l.lo) (runs_wish (take l.low l.runs));
}

abbrev pub decreases-loop-low : goal.decreases-loop-low
decreases-loop-low l = l.high - l.low
