use Rattle.lh_region_joins.proofs.Conditions.{grows-none}
use Rattle.lh_shape.proofs.shape.by_target.Goals as goal

pub returns-in_err-drives-clause-kept : goal.returns-in_err-drives-clause-kept
returns-in_err-drives-clause-kept c = c.merged.ensures.kept

pub returns-then-head_is_next-clause-kept : goal.returns-then-head_is_next-clause-kept
returns-then-head_is_next-clause-kept c = c.merged.ensures.kept

pub returns-clause-kept : goal.returns-clause-kept
returns-clause-kept c = grows-none c.args.terms.now
