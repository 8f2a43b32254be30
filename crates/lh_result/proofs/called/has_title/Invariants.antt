use Rattle.std.proofs.Common.{◌≡◌, map, length}
use Rattle.lh_result.specs.Called.{is_title}
use Rattle.lh_result.proofs.called.has_title.Given as goal

-- those that are left decide
abbrev pub invariant-members : goal.invariant-members
invariant-members g l = is_title (map g.W.Watcher.member l.watchers) l.title ≡ is_title (map g.W.Watcher.member l.rest) l.title

abbrev pub decreases-members : goal.decreases-members
decreases-members g l = length l.rest
