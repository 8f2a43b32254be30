use Rattle.std.proofs.Common.{length}
use Rattle.lh_read_pieces.proofs.Lists.{At}
use Rattle.lh_read_pieces.proofs.list.parts.Given as goal

abbrev pub invariant-loop-parts : goal.invariant-loop-parts
invariant-loop-parts g l = At g.P.ListPart.part_at l.tokens l.rest l.parts

abbrev pub decreases-loop-parts : goal.decreases-loop-parts
decreases-loop-parts g l = length l.rest
