use Rattle.std.proofs.Common.{◌++◌, ap, sym, ◌∙◌, rules}
use Rattle.std.proofs.lemmas.List.{append-nil}
use Rattle.lh_types.specs.Wish.{due_bit}
use Rattle.lh_eval_wishes.specs.Runs.{runs_wish, AllFrom}
use Rattle.lh_eval_wishes.proofs.Splice.{below-none, above-all, lowered-all}
use Rattle.lh_eval_wishes.proofs.overlay.pass.Goals as goal

pub returns-then-not-branch-clause-below : goal.returns-then-not-branch-clause-below
returns-then-not-branch-clause-below c =
    let f : AllFrom (due_bit c.args.due c.args.hi) (runs_wish c.pass_first.new.rest.items) = c.in_ok-pass_first.ensures.last (search rules) in
    sym (append-nil (runs_wish c.pass_first.new.out.items))
    ∙ ap (λ w. runs_wish c.pass_first.new.out.items ++ w)
    (sym (below-none (due_bit c.args.due c.args.lo) (runs_wish c.pass_first.new.rest.items) (lowered-all c.args.due c.args.lo c.args.hi (runs_wish c.pass_first.new.rest.items) c.requires.rising f)))
    ∙ search rules

pub returns-then-not-branch-clause-above : goal.returns-then-not-branch-clause-above
returns-then-not-branch-clause-above c =
    let f : AllFrom (due_bit c.args.due c.args.hi) (runs_wish c.pass_first.new.rest.items) = c.in_ok-pass_first.ensures.last (search rules) in
    sym (above-all (due_bit c.args.due c.args.hi) (runs_wish c.pass_first.new.rest.items) f) ∙ search rules
