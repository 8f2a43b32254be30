use Rattle.std.proofs.Common.{drop}
use Rattle.lh_region_joins.specs.Joins.{edges_on}
use Rattle.lh_region_joins.proofs.Selectors.{SelectorsSoFar}
use Rattle.lh_region_joins.proofs.joins.selectors.Given as goal

abbrev pub invariant-loop-conds : goal.invariant-loop-conds
invariant-loop-conds l = SelectorsSoFar l.fn.terms l.terms (edges_on l.fn.terms l.edges) l.selectors (drop l.conds-index l.conds-items)
