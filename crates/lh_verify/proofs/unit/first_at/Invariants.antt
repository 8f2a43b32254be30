use Rattle.std.proofs.Common.{◌≡◌, drop}
use Rattle.lh_verify.specs.FirstFound.{first_at}
use Rattle.lh_verify.proofs.unit.first_at.Given as goal

abbrev pub invariant-loop-k : goal.invariant-loop-k
invariant-loop-k l = first_at l.scope l.lacks (drop l.k l.places) ≡ first_at l.scope l.lacks l.places
