use Rattle.std.proofs.Common.{drop}
use Rattle.lh_flat_parts.proofs.Tables.{TakingArgs}
use Rattle.lh_flat_parts.proofs.table.arguments_of.Given as goal

abbrev pub invariant-loop-k : goal.invariant-loop-k
invariant-loop-k l = TakingArgs l.flat.values l.parts.items l.k (drop l.k l.arg-items) l.arg-items
