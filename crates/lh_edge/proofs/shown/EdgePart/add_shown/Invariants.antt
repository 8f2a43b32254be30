use Rattle.lh_term.specs.Arena.{trees_at}
use Rattle.lh_edge.proofs.Sights.{MarkedTo}
use Rattle.lh_edge.proofs.shown.EdgePart.add_shown.Given as goal

abbrev pub invariant-loop-valuation : goal.invariant-loop-valuation
invariant-loop-valuation l = MarkedTo l.self.table.now (trees_at l.self.terms.now l.self.atoms.now) l.part l.fn.shown l.shown l.valuation
