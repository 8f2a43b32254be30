use Rattle.std.proofs.Common.{vec_len, ◌-◌, map}
use Rattle.lh_types.specs.Pictures.{picture}
use Rattle.lh_watch.proofs.ShowLemmas.{Progress}
use Rattle.lh_watch.proofs.shows.show.Given as goal

abbrev pub invariant-loop-k : goal.invariant-loop-k
invariant-loop-k g l = Progress (picture l.f) (map g.W.Watcher.member l.fn.ws.items) l.fn.reports.items (map g.W.Watcher.member l.ws.items) l.k l.reports.items l.stop

abbrev pub decreases-loop-k : goal.decreases-loop-k
decreases-loop-k g l = vec_len l.ws - l.k
