use Rattle.std.proofs.Common.{rules}
use Rattle.lh_watch.proofs.ShowLemmas.{keep_view}
use Rattle.lh_watch.proofs.shows.keep_titles.Goals as goal

pub returns : goal.returns
returns g c = keep_view _ _ _ _ _ _ c.retain.ensures.filtered (λ x b f' h. search rules)
