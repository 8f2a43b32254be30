use Rattle.std.proofs.Common.{nat_eq, length}
use Rattle.std.specs.HashMap as hash
use Rattle.lh_term.proofs.Swaps.{RenamedSoFar}
use Rattle.lh_cert_terms.proofs.remade.all_made.Given as goal

abbrev pub invariant-loop-left : goal.invariant-loop-left
invariant-loop-left l = RenamedSoFar (hash.get nat_eq l.made) l.xs l.left l.to

abbrev pub decreases-loop-left : goal.decreases-loop-left
decreases-loop-left l = length l.left
