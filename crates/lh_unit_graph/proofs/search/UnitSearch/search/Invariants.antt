use Rattle.lh_unit_graph.proofs.SearchState.{Searching}
use Rattle.lh_unit_graph.proofs.SearchSteps.{left}
use Rattle.lh_unit_graph.proofs.search.UnitSearch.search.Given as goal

abbrev pub invariant-loop-frame : goal.invariant-loop-frame
invariant-loop-frame g l = Searching g.M.Measured.measuring l.nodes l.top.0 l.self

abbrev pub decreases-loop-frame : goal.decreases-loop-frame
decreases-loop-frame g l = left g.M.Measured.measuring l.nodes l.self
