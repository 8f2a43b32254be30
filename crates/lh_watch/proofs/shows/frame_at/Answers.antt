use Rattle.lh_watch.proofs.ShowLemmas.{frame_ok, frame_err}
use Rattle.lh_watch.proofs.shows.frame_at.Goals as goal

pub returns-clause-ok : goal.returns-clause-ok
returns-clause-ok g c = frame_ok _ _ _ _ _ _ _ c.index_mut-w.ensures.value c.frame_one.ensures.ok

pub returns-clause-err : goal.returns-clause-err
returns-clause-err g c = frame_err _ _ _ _ _ _ c.index_mut-w.ensures.value c.frame_one.ensures.err
