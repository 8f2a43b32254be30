use Rattle.std.proofs.Common.{ap, ◌∙◌}
use Rattle.lh_eval_wishes.specs.Over.{stacked}
use Rattle.lh_eval_wishes.proofs.Over.{stacked-push}
use Rattle.lh_eval_wishes.proofs.layers.push_top.Goals as goal

pub returns : goal.returns
returns c = ap stacked c.in_ok-push.ensures.items ∙ stacked-push c.args.layers.now.items c.args.top
