use Rattle.lh_region_joins.proofs.Conditions.{grows-none}
use Rattle.lh_region_walk.proofs.region.place_behind.Goals as goal

pub returns-in_err-begin-clause-kept : goal.returns-in_err-begin-clause-kept
returns-in_err-begin-clause-kept c = grows-none c.args.terms.now

pub returns-in_err-cond-clause-kept : goal.returns-in_err-cond-clause-kept
returns-in_err-cond-clause-kept c = c.bit.ensures.kept

pub returns-clause-kept : goal.returns-clause-kept
returns-clause-kept c = c.bit.ensures.kept
