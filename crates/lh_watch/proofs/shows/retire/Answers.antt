use Rattle.lh_watch.proofs.ShowLemmas.{retire_ok}
use Rattle.lh_watch.proofs.shows.retire.Goals as goal

pub returns-clause-ok : goal.returns-clause-ok
returns-clause-ok g c = retire_ok _ _ _ _ _ _ _ c.index.ensures c.remove-gone.ensures.items c.in_ok-report_one.ensures
