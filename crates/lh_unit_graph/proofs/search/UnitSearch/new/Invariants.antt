use Rattle.std.proofs.Common.{◌≡◌, replicate}
use Rattle.lh_unit_graph.specs.declared.search.Mark.TheVariants as mark
use Rattle.lh_unit_graph.proofs.search.UnitSearch.new.Given as goal

abbrev pub invariant-loop-unit : goal.invariant-loop-unit
invariant-loop-unit g l = l.marks.items ≡ replicate l._unit mark.New
