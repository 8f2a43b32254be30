use Rattle.lh_region_joins.proofs.Conditions.{grows-none}
use Rattle.lh_region_walk.proofs.opening.take_line.Goals as goal

pub returns-in_default-clause-kept : goal.returns-in_default-clause-kept
returns-in_default-clause-kept c = grows-none c.args.terms.now

pub returns-in-Phi-clause-kept : goal.returns-in-Phi-clause-kept
returns-in-Phi-clause-kept c = c.take_phi.ensures.kept
