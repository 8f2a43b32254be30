use Rattle.lh_region_joins.proofs.Conditions.{grows-none}
use Rattle.lh_region_walk.proofs.opening.take_merge.Goals as goal

pub returns-in_default-clause-kept : goal.returns-in_default-clause-kept
returns-in_default-clause-kept c = grows-none c.args.terms.now

pub returns-in_err-edges-clause-kept : goal.returns-in_err-edges-clause-kept
returns-in_err-edges-clause-kept c = grows-none c.args.terms.now

pub returns-clause-kept : goal.returns-clause-kept
returns-clause-kept c = c.take_phi.ensures.kept
