use Rattle.std.proofs.Common.{◌≡◌, ◌++◌, length}
use Rattle.lh_types.specs.Wish.{due_bit}
use Rattle.lh_eval_wishes.specs.Runs.{runs_wish, below, above, EachFilled, AreRuns}
use Rattle.lh_eval_wishes.proofs.overlay.pass.Given as goal

abbrev pub invariant-loop-first : goal.invariant-loop-first
invariant-loop-first l = record {
  below : runs_wish l.out.items ++ below (due_bit l.due l.lo) (runs_wish l.rest.items) ≡ runs_wish l.initial.out.items ++ below (due_bit l.due l.lo) (runs_wish l.initial.rest.items);
  above : above (due_bit l.due l.hi) (runs_wish l.rest.items) ≡ above (due_bit l.due l.hi) (runs_wish l.initial.rest.items);
  runs : AreRuns l.rest.items;
  filled : EachFilled l.initial.out.items → EachFilled l.out.items;
}

abbrev pub decreases-loop-first : goal.decreases-loop-first
decreases-loop-first l = length l.rest.items
