use Rattle.lh_region_joins.proofs.Conditions.{grows-none}
use Rattle.lh_region_walk.proofs.lines.drive_cond.Goals as goal

pub returns-in-None-clause-kept : goal.returns-in-None-clause-kept
returns-in-None-clause-kept c = grows-none c.args.terms.now

pub returns-in-Some-clause-kept : goal.returns-in-Some-clause-kept
returns-in-Some-clause-kept c = c.and_at.ensures.kept
