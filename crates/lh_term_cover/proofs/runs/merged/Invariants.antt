use Rattle.std.proofs.Common.{◌≡◌, ◌++◌, drop}
use Rattle.lh_term_cover.specs.Runs as spec
use Rattle.lh_term_cover.proofs.runs.merged.Given as goal

abbrev pub invariant-loop-run : goal.invariant-loop-run
invariant-loop-run l = l.runs.items ++ spec.merged_from l.last (drop l.run-index l.rest) ≡ spec.merged l.fn.sorted
