use Rattle.std.proofs.Common.{◌≡◌, ◌++◌, length}
use Rattle.lh_types.specs.Wish.{IsInOrder}
use Rattle.lh_eval_wishes.specs.Over.{over}
use Rattle.lh_eval_wishes.specs.Runs.{runs_wish, EachFilled}
use Rattle.lh_eval_wishes.proofs.overlay.overlaid.Given as goal

abbrev pub invariant-loop-run : goal.invariant-loop-run
invariant-loop-run l = record {
  same : over (runs_wish l.out.items ++ runs_wish l.rest.items) (runs_wish l.newer.items) ≡ over (runs_wish l.initial.rest.items) (runs_wish l.initial.newer.items);
  ordered : IsInOrder (runs_wish l.out.items ++ runs_wish l.rest.items);
  before : IsInOrder (runs_wish l.out.items ++ runs_wish l.newer.items);
  out_filled : EachFilled l.out.items;
  rest_filled : EachFilled l.rest.items;
  newer_filled : EachFilled l.newer.items;
}

abbrev pub decreases-loop-run : goal.decreases-loop-run
decreases-loop-run l = length l.newer.items
