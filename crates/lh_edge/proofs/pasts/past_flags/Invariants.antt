use Rattle.std.proofs.Common.{nat_eq}
use Rattle.std.specs.HashSet as hash
use Rattle.lh_edge.proofs.Ids.{TellSoFar}
use Rattle.lh_edge.proofs.pasts.past_flags.Given as goal

abbrev pub invariant-loop-i : goal.invariant-loop-i
invariant-loop-i l = TellSoFar l.terms l.flags.items (hash.contains nat_eq l.pasts) l.i
