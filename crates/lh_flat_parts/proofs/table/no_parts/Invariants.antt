use Rattle.std.proofs.Common.{◌≡◌, replicate, None}
use Rattle.lh_flat_parts.proofs.table.no_parts.Given as goal

abbrev pub invariant-loop : goal.invariant-loop
invariant-loop l = l.parts.items ≡ replicate l.counter None
