use Rattle.std.proofs.Common.{◌≤◌, ◌-◌, length}
use Rattle.lh_eval_wishes.proofs.runs.place_from.Given as goal

abbrev pub invariant-loop-to : goal.invariant-loop-to
invariant-loop-to l = record {
  order : l.from ≤ l.to;
  within : l.to ≤ length l.runs;
}

abbrev pub decreases-loop-to : goal.decreases-loop-to
decreases-loop-to l = length l.runs - l.to
