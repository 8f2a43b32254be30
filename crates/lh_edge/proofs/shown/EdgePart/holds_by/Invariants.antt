use Rattle.lh_edge.proofs.Sights.{HoldsSoFar}
use Rattle.lh_edge.proofs.shown.EdgePart.holds_by.Given as goal

abbrev pub invariant-loop-valuation : goal.invariant-loop-valuation
invariant-loop-valuation l = HoldsSoFar l.self.table.now l.kept l.holds.items l.valuation
