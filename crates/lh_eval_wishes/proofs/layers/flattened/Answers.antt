use Rattle.std.proofs.Common.{◌≡◌, [], ap, sym, ◌∙◌, arith}
use Rattle.std.proofs.lemmas.Grind.{common_steps}
use Rattle.lh_bits.specs.MostlyOne.{items_in}
use Rattle.lh_eval_wishes.specs.Over.{over, stacked}
use Rattle.lh_eval_wishes.specs.Runs.{runs_wish}
use Rattle.lh_eval_wishes.proofs.Over.{over-none, over-behind}
use Rattle.lh_eval_wishes.proofs.layers.flattened.Goals as goal

pub returns-then-is_empty-clause-wish : goal.returns-then-is_empty-clause-wish
returns-then-is_empty-clause-wish c =
    let e : c.args.layers.items ≡ [] = grind (arith, common_steps) in
    over-none c.args.layers.items (runs_wish (items_in c.args.runs)) e c.requires.ordered

pub returns-clause-wish : goal.returns-clause-wish
returns-clause-wish c =
    sym (over-behind (runs_wish c.into_runs.result.items) [] c.into_runs.ensures.runs.ordered) ∙ ap (over []) c.into_runs.ensures.wish ∙ c.in_ok-all.ensures
    ∙ ap (over (stacked c.args.layers.items)) (c.new-top.ensures ∙ ap runs_wish c.in_ok-listed.ensures)
