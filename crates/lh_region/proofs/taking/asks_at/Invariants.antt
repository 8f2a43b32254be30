use Rattle.std.proofs.Common.{◌≡◌, take}
use Rattle.lh_region.specs.Taken.{asks_at}
use Rattle.lh_region.proofs.taking.asks_at.Given as goal

abbrev pub invariant-loop-arg : goal.invariant-loop-arg
invariant-loop-arg l = l.asks.items ≡ asks_at l.at (take l.arg-index l.args)
