use Rattle.std.proofs.Common.{◌≡◌, map}
use Rattle.std.specs.List.{list_all}
use Rattle.lh_args.specs.Meant.{simulation_of, titles_left}
use Rattle.lh_result.specs.Called.{is_title}
use Rattle.lh_result.proofs.called.knows_titles.Given as goal

-- those that are still to come decide
abbrev pub invariant-loop-title : goal.invariant-loop-title
invariant-loop-title g l =
    list_all (is_title (map g.W.Watcher.member l.watchers)) (simulation_of l.asked).titles ≡ list_all (is_title (map g.W.Watcher.member l.watchers)) (titles_left l.title-iterator)
