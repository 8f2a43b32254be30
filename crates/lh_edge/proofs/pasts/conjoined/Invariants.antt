use Rattle.std.proofs.Common.{nat_eq, length}
use Rattle.std.specs.HashSet as hash
use Rattle.lh_edge.proofs.Ids.{Conjoining}
use Rattle.lh_edge.proofs.pasts.conjoined.Given as goal

abbrev pub invariant-loop-left : goal.invariant-loop-left
invariant-loop-left l = Conjoining l.fn.terms l.terms (hash.contains nat_eq l.pasts) l.xs l.left l.all

abbrev pub decreases-loop-left : goal.decreases-loop-left
decreases-loop-left l = length l.left
