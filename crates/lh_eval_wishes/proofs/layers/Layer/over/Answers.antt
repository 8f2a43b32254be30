use Rattle.std.proofs.Common.{sym}
use Rattle.lh_eval_wishes.proofs.OverlaySteps.{over-runs, over-joined}
use Rattle.lh_eval_wishes.proofs.layers.Layer.over.Goals as goal

pub invariant_of-result : goal.invariant_of-result
invariant_of-result c = over-runs c.below.inside.runs.items c.self.inside.runs.items c.in_ok-runs.runs.items c.in_ok-runs.ensures.wish c.below.invariant.ordered c.in_ok-runs.ensures.filled

pub returns : goal.returns
returns c =
    over-joined c.below.inside.runs.items c.self.inside.runs.items c.in_ok-runs.runs.items c.args.below c.args.self (sym c.below.view_is) (sym c.self.view_is) c.in_ok-runs.ensures.wish c.below.invariant.ordered
