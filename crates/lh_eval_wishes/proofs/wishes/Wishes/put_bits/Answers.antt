use Rattle.std.proofs.Common.{◌≡◌, ap, ◌∙◌, rules}
use Rattle.lh_bits.specs.declared.mostly_one.Items.{Items}
use Rattle.lh_types.specs.Wish.{with_bits}
use Rattle.lh_eval_wishes.specs.declared.run.WishRun.{WishRun}
use Rattle.lh_eval_wishes.specs.Over.{over, stacked}
use Rattle.lh_eval_wishes.proofs.Over.{over-bits}
use Rattle.lh_bits.specs.MostlyOne.{items_in}
use Rattle.lh_eval_wishes.specs.Runs.{runs_wish, AreRuns}
use Rattle.lh_eval_wishes.proofs.RunLemmas.{are-runs}
use Rattle.lh_eval_wishes.proofs.wishes.Wishes.put_bits.Goals as goal

pub invariant_of-self-2 : goal.invariant_of-self-2
invariant_of-self-2 c =
    let a : AreRuns (items_in c.replace-runs.result) = search rules in
    are-runs (items_in c.replace-runs.result) (items_in c.in_ok-self-inside.field-0) c.args.due c.args.lo c.args.bits c.in_ok-self-inside.ensures.wish a.ordered c.in_ok-self-inside.ensures.filled

pub returns : goal.returns
returns c =
    let a : AreRuns (items_in c.replace-runs.result) = search rules in
    let r : c.replace-runs.result ≡ c.self.inside.runs = search rules in
    ap (over (stacked c.self.inside.layers.items)) c.in_ok-self-inside.ensures.wish
    ∙ over-bits c.args.bits (runs_wish (items_in c.replace-runs.result)) (stacked c.self.inside.layers.items) c.args.due c.args.lo a.ordered
    ∙ ap (λ w. with_bits w c.args.due c.args.lo c.args.bits) (ap (λ (x : Items WishRun). over (stacked c.self.inside.layers.items) (runs_wish (items_in x))) r ∙ c.self.view_is ∙ search rules)
