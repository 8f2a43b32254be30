use Rattle.std.proofs.Common.{drop}
use Rattle.lh_region_joins.proofs.EdgeJoins.{AnySoFar}
use Rattle.lh_region_joins.proofs.joins.any_of.Given as goal

abbrev pub invariant-loop-edge : goal.invariant-loop-edge
invariant-loop-edge l = AnySoFar l.fn.terms l.terms l.any (drop l.edge-index l.edges) l.edges
