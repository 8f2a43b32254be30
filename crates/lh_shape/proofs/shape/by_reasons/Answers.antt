use Rattle.std.proofs.Common.{◌∙◌, sym}
use Rattle.lh_shape.proofs.RegisterShapes.{shape-left}
use Rattle.lh_shape.proofs.shape.by_reasons.Goals as goal

pub returns-in-Some-clause-is : goal.returns-in-Some-clause-is
returns-in-Some-clause-is c =
    λ x h. shape-left c.args.terms.now c.args.regions.now x h c.args.terms.now c.in-Some.reason c.requires.later (sym c.in_ok-reason.ensures ∙ c.in-Some.is)
