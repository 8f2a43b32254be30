use Rattle.std.proofs.Common.{◌∙◌, refl, sym}
use Rattle.lh_shape.proofs.RegisterShapes.{shape-once}
use Rattle.lh_shape.proofs.shape.shape_of_regions.Goals as goal

pub returns-then-is_once-clause-is : goal.returns-then-is_once-clause-is
returns-then-is_once-clause-is c = λ x h. shape-once c.args.terms.now c.args.regions x h c.args.terms.now refl (sym c.is_once.ensures ∙ c.if-is_once.true)
