use Rattle.std.proofs.Common.{length, drop}
use Rattle.lh_flat_parts.proofs.Tables.{TakingLines}
use Rattle.lh_flat_parts.proofs.table.Steps.take_block.Given as goal

abbrev pub invariant-loop-line : goal.invariant-loop-line
invariant-loop-line l = TakingLines (length l.fn.self.given.items) l.fn.self.given.items l.self.given.items l.fn.self.results.items l.self.results.items (drop l.line-index l.line-items) l.line-items
