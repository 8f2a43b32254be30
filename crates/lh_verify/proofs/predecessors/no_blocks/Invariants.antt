use Rattle.std.proofs.Common.{◌≡◌, [], replicate}
use Rattle.lh_verify.proofs.predecessors.no_blocks.Given as goal

abbrev pub invariant-loop : goal.invariant-loop
invariant-loop l = l.rows.items ≡ replicate l.counter []
