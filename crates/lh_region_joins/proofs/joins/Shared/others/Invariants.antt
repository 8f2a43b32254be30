use Rattle.std.proofs.Common.{take}
use Rattle.lh_region_joins.proofs.EdgeJoins.{OthersSoFar}
use Rattle.lh_region_joins.proofs.joins.Shared.others.Given as goal

abbrev pub invariant-loop-conjunct : goal.invariant-loop-conjunct
invariant-loop-conjunct l = OthersSoFar l.terms l.self l.others (take l.conjunct-index l.conjunct-items)
