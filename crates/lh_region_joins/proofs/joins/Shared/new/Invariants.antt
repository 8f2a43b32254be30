use Rattle.std.proofs.Common.{take}
use Rattle.lh_region_joins.specs.Joins.{IsShared}
use Rattle.lh_region_joins.proofs.joins.Shared.new.Given as goal

abbrev pub invariant-loop-edge : goal.invariant-loop-edge
invariant-loop-edge l = IsShared l.terms (take l.edge-index l.edges) l.shared
