use Rattle.std.proofs.Common.{drop}
use Rattle.lh_region_joins.proofs.EdgeJoins.{AllSoFar}
use Rattle.lh_region_joins.proofs.joins.conjunction.Given as goal

abbrev pub invariant-loop-cond : goal.invariant-loop-cond
invariant-loop-cond l = AllSoFar l.fn.terms l.terms l.all (drop l.cond-index l.conds) l.conds
