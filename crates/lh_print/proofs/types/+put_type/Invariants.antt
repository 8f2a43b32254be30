use Rattle.std.proofs.Common.{drop, map}
use Rattle.lh_text_buffer.specs.Writing.{Leaves}
use Rattle.lh_types.specs.Types.{row_of, node_count, node_count_row}
use Rattle.lh_unit.specs.Pieces.{render}
use Rattle.lh_unit.specs.CanonTypes.{type_pieces, row_pieces}
use Rattle.lh_print.proofs.Joined.{in_row}
use Rattle.lh_print.proofs.types.+put_type.Given as goal

abbrev pub invariant-put_types-loop-t : goal.invariant-put_types-loop-t
invariant-put_types-loop-t l = Leaves l.initial.out l.out (in_row l.before (map type_pieces (drop l.t-index l.types))) (render (row_pieces (row_of l.types)))

abbrev pub decreases-put_type : goal.decreases-put_type
decreases-put_type l = node_count l.t.now

abbrev pub decreases-put_types : goal.decreases-put_types
decreases-put_types l = node_count_row (row_of l.types.now)
