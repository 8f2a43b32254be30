use Rattle.std.proofs.Common.{◌≡◌, ◌++◌, drop}
use Rattle.lh_term_cover.specs.Runs as spec
use Rattle.lh_term_cover.proofs.runs.bits_from.Given as goal

abbrev pub invariant-loop-part : goal.invariant-loop-part
invariant-loop-part l = l.runs.items ++ spec.runs_of (drop l.part-index l.parts) ≡ spec.runs_of l.parts
