use Rattle.lh_eval_wishes.proofs.GroupSteps.{grouped-result}
use Rattle.lh_eval_wishes.proofs.wishes.Wishes.into_writes.Goals as goal

pub returns-clause-grouped : goal.returns-clause-grouped
returns-clause-grouped c = grouped-result c.grouped.result _ c.in_ok-runs.ensures.runs.ordered c.grouped.ensures.wish c.grouped.ensures.apart
