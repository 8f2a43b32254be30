use Rattle.std.proofs.Common.{[], sym, ◌∙◌, ap, ◌∷◌}
use Rattle.std.proofs.lemmas.List.{append-nil}
use Rattle.lh_eval_wishes.specs.Runs.{run_wish}
use Rattle.lh_eval_wishes.proofs.GroupSteps.{alone}
use Rattle.lh_eval_wishes.proofs.grouping.alone.Goals as goal

pub returns-clause-wish : goal.returns-clause-wish
returns-clause-wish c = alone [] c.one.result c.args.run (c.one.ensures ∙ ap (λ writes. (c.args.run.due, writes) ∷ []) c.in_ok-writes.ensures) ∙ sym (append-nil (run_wish c.args.run))
