use Rattle.std.proofs.Common.{drop}
use Rattle.lh_region_joins.proofs.Selectors.{MergeSoFar}
use Rattle.lh_region_joins.proofs.joins.merge.Given as goal

abbrev pub invariant-loop-k : goal.invariant-loop-k
invariant-loop-k l = MergeSoFar l.fn.terms l.terms l.fn.first l.merged (drop l.k l.selectors) (drop l.k l.others) l.selectors l.others
