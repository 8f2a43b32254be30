use Rattle.std.proofs.Common.{ap, sym, ◌∙◌}
use Rattle.lh_bits.specs.MostlyOne.{items_in}
use Rattle.lh_bits.specs.declared.mostly_one.Items.{Items}
use Rattle.lh_types.specs.Wish.{with_bits}
use Rattle.lh_eval_wishes.specs.declared.run.WishRun.{WishRun}
use Rattle.lh_eval_wishes.specs.Runs.{runs_wish}
use Rattle.lh_eval_wishes.proofs.RunLemmas.{first-wish}
use Rattle.lh_eval_wishes.proofs.runs.with_more.Goals as goal

pub returns-in-Empty-clause-wish : goal.returns-in-Empty-clause-wish
returns-in-Empty-clause-wish c =
    first-wish c.args.run ∙ ap (λ (x : Items WishRun). with_bits (runs_wish (items_in x)) c.args.run.due c.args.run.lo c.args.run.bits) (sym c.in-Empty.is)
