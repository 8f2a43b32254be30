use Rattle.lh_region_walk.proofs.HavingSteps.{has-steps}
use Rattle.lh_lower.specs.Outcomes.{IsOutcomeOf, IsOutcomeBy}
use Rattle.lh_lower.proofs.Outcomes.{if-ok}
use Rattle.lh_lower.proofs.OfModule.{can-emit-made, outcome-made}
use Rattle.lh_lower.proofs.outcome.outcome_by.Goals as goal

pub new-requires : goal.new-requires
new-requires c = has-steps (c.requires.naming.unit_name 0) c.requires.naming c.args.flat.now c.requires.is c.requires.below c.requires.few

pub new-requires-2-clause-steps : goal.new-requires-2-clause-steps
new-requires-2-clause-steps c = has-steps (c.requires.naming.unit_name 0) c.requires.naming c.args.flat.now c.requires.is c.requires.below c.requires.few

pub entity_of-requires : goal.entity_of-requires
entity_of-requires c =
    let o = c.in_ok-origin.ensures in
    can-emit-made c.comb_given.ensures c.edge_given.ensures c.once_given.ensures c.shape_of_flat.new.terms c.args.names c.args.flat.now c.in_ok-parts.parts c.requires c.in_ok-parts.ensures
    c.in_ok-origin.origin o.flat o.parts o.names o.firsts c.in_ok-shape.shape c.in_ok-shape.ensures.is

pub returns : goal.returns
returns c =
    let o = c.in_ok-origin.ensures in
    record {
      is = if-ok c.entity_of.result (IsOutcomeOf c.shape_of_flat.new.terms c.in_ok-origin.origin c.in_ok-shape.shape) (IsOutcomeBy c.args.names c.args.flat.now)
          (outcome-made c.comb_given.ensures c.edge_given.ensures c.once_given.ensures c.shape_of_flat.new.terms c.args.names c.args.flat.now c.in_ok-parts.parts c.requires c.in_ok-parts.ensures
          c.in_ok-origin.origin o.flat o.parts o.names o.firsts c.in_ok-shape.shape c.in_ok-shape.ensures.is)
          c.entity_of.ensures.is;
    }
