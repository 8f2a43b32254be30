use Rattle.std.proofs.Common.{◌≡◌, drop}
use Rattle.lh_term.specs.Arena.{trees_at}
use Rattle.lh_edge.specs.Steps.{shown_from}
use Rattle.lh_edge.proofs.shown.EdgePart.are_marked.Given as goal

abbrev pub invariant-loop-valuation : goal.invariant-loop-valuation
invariant-loop-valuation l =
    shown_from l.self.table.now (trees_at l.self.terms.now l.self.atoms.now) l._parts l.valuation (drop l.valuation l.self.table.now)
    ≡ shown_from l.self.table.now (trees_at l.self.terms.now l.self.atoms.now) l._parts 0 l.self.table.now
