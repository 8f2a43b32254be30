use Rattle.lh_emit.proofs.TermParts.{values-made, values-fit, choice-parts, choice-typed}
use Rattle.lh_emit.proofs.making.made_of.Goals as goal

pub constants-requires : goal.constants-requires
constants-requires c = values-fit c.args.terms.now c.args.t c.in_ok-values.field-0 c.in-Parts.values c.in-Parts.is c.in_ok-values.ensures

pub returns-in_ok-constants-in-Parts-clause-made : goal.returns-in_ok-constants-in-Parts-clause-made
returns-in_ok-constants-in-Parts-clause-made c =
    values-made c.args.terms.now c.constants.new.terms c.args.t c.in_ok-values.field-0 c.in-Parts.values c.in_ok-constants-in-Parts.field-0 c.in-Parts.is c.in_ok-values.ensures
    c.in_ok-constants-in-Parts.ensures.made
