use Rattle.std.proofs.Common.{◌≡◌, ◌++◌, take}
use Rattle.lh_types.specs.Wish.{due_bit}
use Rattle.lh_eval_wishes.specs.Runs.{runs_wish, below, above, EachFilled}
use Rattle.lh_eval_wishes.proofs.runs.replace.Given as goal

abbrev pub invariant-loop-r : goal.invariant-loop-r
invariant-loop-r l = record {
  low : runs_wish l.runs.items ≡ runs_wish l.initial.runs.items ++ below (due_bit l.run.due l.run.lo) (runs_wish (take l.r-index l.cut));
  high : runs_wish l.rest.items ≡ above (due_bit l.run.due l.hi) (runs_wish (take l.r-index l.cut));
  low_filled : EachFilled l.runs.items;
  high_filled : EachFilled l.rest.items;
}
