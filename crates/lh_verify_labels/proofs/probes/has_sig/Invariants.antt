use Rattle.std.proofs.Common.{◌≡◌, drop}
use Rattle.lh_unit.specs.Arena.{table_at}
use Rattle.lh_verify_values.specs.Facts.{any_sig}
use Rattle.lh_verify_labels.proofs.probes.has_sig.Given as goal

abbrev pub invariant-loop-i : goal.invariant-loop-i
invariant-loop-i l = any_sig (drop l.i (table_at l.m l.unit.0).lines) ≡ any_sig (table_at l.m l.unit.0).lines
