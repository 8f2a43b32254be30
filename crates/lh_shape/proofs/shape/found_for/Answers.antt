use Rattle.lh_shape.proofs.RegisterShapes.{finds}
use Rattle.lh_shape.proofs.shape.found_for.Goals as goal

pub returns-in_default-clause-finds : goal.returns-in_default-clause-finds
returns-in_default-clause-finds c = finds c.args.terms.now c.edges.new.terms c.args.waited.now c.args.cond c.edges.result c.edges.ensures.kept c.requires.is_in c.edges.ensures.answers
