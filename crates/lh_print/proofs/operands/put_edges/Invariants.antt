use Rattle.std.proofs.Common.{drop, map}
use Rattle.lh_text_buffer.specs.Writing.{Leaves}
use Rattle.lh_unit.specs.Arena.{naming}
use Rattle.lh_unit.specs.Naming.{edge_text}
use Rattle.lh_unit.specs.Pieces.{render, commas}
use Rattle.lh_unit.specs.Canon.{edge}
use Rattle.lh_print.proofs.Joined.{in_row}
use Rattle.lh_print.proofs.operands.put_edges.Given as goal

abbrev pub invariant-loop-e : goal.invariant-loop-e
invariant-loop-e l = Leaves l.initial.out l.out (in_row l.before (map edge (map (edge_text (naming l.view.module.now l.view.unit.0)) (drop l.e-index l.edges)))) (render (commas (map edge (map (edge_text (naming l.view.module.now l.view.unit.0)) l.edges))))
