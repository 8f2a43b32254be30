use Rattle.std.proofs.Common.{◌≡◌}
use Rattle.lh_eval_wishes.specs.Runs.{runs_wish}
use Rattle.lh_types.specs.Wish.{writes_wish}
use Rattle.lh_eval_wishes.specs.Grouped.{Apart}
use Rattle.lh_eval_wishes.proofs.grouping.groups_of.Given as goal

abbrev pub invariant-loop-run : goal.invariant-loop-run
invariant-loop-run l = record {
  same : writes_wish l.all.items ≡ runs_wish l.yielded;
  apart : Apart l.all.items;
}
