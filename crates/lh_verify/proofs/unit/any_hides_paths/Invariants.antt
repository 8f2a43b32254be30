use Rattle.std.proofs.Common.{◌≡◌, drop}
use Rattle.std.specs.List.{list_any}
use Rattle.lh_verify.specs.Faults.{hides_paths}
use Rattle.lh_verify.proofs.unit.any_hides_paths.Given as goal

abbrev pub invariant-loop-k : goal.invariant-loop-k
invariant-loop-k l = list_any (hides_paths l.scope) (drop l.k l.places) ≡ list_any (hides_paths l.scope) l.places
