use Rattle.std.proofs.Common.{ap, ◌∙◌}
use Rattle.lh_verify.specs.Counting.{all_named_once}
use Rattle.lh_verify.proofs.PhiSteps.{by-counts}
use Rattle.lh_verify.proofs.phis.phi_is_wrong.Goals as goal

pub returns-else-spot-2-clause-wrong : goal.returns-else-spot-2-clause-wrong
returns-else-spot-2-clause-wrong c = λ t p.
    by-counts t c.args.spot c.args.inst.now c.in-Phi.ty c.in-Phi.edges c.are_named_once.result c.in-Phi.is c.if-spot.false c.if-spot-2.false
    (c.are_named_once.ensures.once
    ∙ ap (λ es. all_named_once es c.blocks_in.result.now) c.as_slice.ensures
    ∙ ap (all_named_once c.in-Phi.edges) (c.blocks_in.ensures ∙ p.row c.args.spot.block.0))
