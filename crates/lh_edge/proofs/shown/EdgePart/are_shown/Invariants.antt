use Rattle.std.proofs.Common.{length}
use Rattle.lh_term.specs.Arena.{trees_at}
use Rattle.lh_edge.proofs.Sights.{Marking}
use Rattle.lh_edge.proofs.shown.EdgePart.are_shown.Given as goal

abbrev pub invariant-loop-left : goal.invariant-loop-left
invariant-loop-left l = Marking l.self.table.now (trees_at l.self.terms.now l.self.atoms.now) l.parts l.left l.shown.items

abbrev pub decreases-loop-left : goal.decreases-loop-left
decreases-loop-left l = length l.left
