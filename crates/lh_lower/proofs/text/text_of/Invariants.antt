use Rattle.std.proofs.Common.{◌≡◌}
use Rattle.lh_lower.proofs.ReportRows.{text_to}
use Rattle.lh_lower.proofs.text.text_of.Given as goal

abbrev pub invariant-loop-row : goal.invariant-loop-row
invariant-loop-row l = l.text.items ≡ text_to l.m l.rows l.row-index
