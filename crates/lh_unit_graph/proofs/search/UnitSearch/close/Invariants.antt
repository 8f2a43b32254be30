use Rattle.std.proofs.Common.{vec_len}
use Rattle.lh_unit_graph.proofs.SearchSteps.{Closing}
use Rattle.lh_unit_graph.proofs.search.UnitSearch.close.Given as goal

abbrev pub invariant-loop-frame : goal.invariant-loop-frame
invariant-loop-frame g l = Closing g.M.Measured.measuring l.fn.self l.fn.frame l.self

abbrev pub decreases-loop-frame : goal.decreases-loop-frame
decreases-loop-frame g l = vec_len l.self.stack
