use Rattle.std.proofs.Common.{◌≡◌, take}
use Rattle.lh_region_walk.specs.Merges.{as_phis}
use Rattle.lh_region_walk.proofs.opening.as_phis.Given as goal

abbrev pub invariant-loop-edge : goal.invariant-loop-edge
invariant-loop-edge l = l.edges ≡ as_phis (take l.edge-index l.merged)
