use Rattle.std.proofs.Common.{drop}
use Rattle.lh_unit.specs.Arena.{table_at, value_count}
use Rattle.lh_verify_labels.specs.Marking.{Advances}
use Rattle.lh_verify_labels.proofs.probes.mark_insts.Given as goal

abbrev pub invariant-loop-i : goal.invariant-loop-i
invariant-loop-i l = Advances (drop l.i (table_at l.m l.unit.0).lines) l.marks (value_count l.m l.unit.0) l.next
