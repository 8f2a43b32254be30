use Rattle.std.proofs.Common.{◌≡◌, ◌+◌, drop}
use Rattle.lh_edge.specs.Steps.{place_in}
use Rattle.lh_edge.proofs.triggers.place_of.Given as goal

abbrev pub invariant-loop-k : goal.invariant-loop-k
invariant-loop-k l = l.k + place_in (drop l.k l.parts) l.part ≡ place_in l.parts l.part
