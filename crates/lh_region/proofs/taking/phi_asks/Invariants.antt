use Rattle.std.proofs.Common.{◌≡◌, take}
use Rattle.lh_region.specs.Taken.{phi_asks}
use Rattle.lh_region.proofs.taking.phi_asks.Given as goal

abbrev pub invariant-loop-edge : goal.invariant-loop-edge
invariant-loop-edge l = l.asks.items ≡ phi_asks l.operands (take l.edge-index l.edges)
