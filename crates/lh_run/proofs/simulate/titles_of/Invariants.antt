use Rattle.std.proofs.Common.{◌≡◌, ◌++◌}
use Rattle.lh_args.specs.Meant.{titles_left}
use Rattle.lh_run.proofs.simulate.titles_of.Given as goal

-- the titles that are there and those that are still to come are all of them
abbrev pub invariant-loop-title : goal.invariant-loop-title
invariant-loop-title l = l.list ++ titles_left l.title-iterator ≡ titles_left l.fn.titles
