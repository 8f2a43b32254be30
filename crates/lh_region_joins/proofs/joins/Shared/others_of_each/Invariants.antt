use Rattle.std.proofs.Common.{take}
use Rattle.lh_region_joins.proofs.Selectors.{EachSoFar}
use Rattle.lh_region_joins.proofs.joins.Shared.others_of_each.Given as goal

abbrev pub invariant-loop-edge : goal.invariant-loop-edge
invariant-loop-edge l = EachSoFar l.terms l.self (take l.edge-index l.edges) l.others
