use Rattle.std.specs.Ordering.{nat_cmp}
use Rattle.std.specs.BTreeSet as sorted
use Rattle.lh_term.specs.Reach.{operands_of}
use Rattle.lh_term.proofs.Greatest.{top}
use Rattle.lh_term.proofs.TermWalks.{ReachedSoFar}
use Rattle.lh_term.proofs.terms.Terms.made_of.Given as goal

abbrev pub invariant-loop-i : goal.invariant-loop-i
invariant-loop-i l = ReachedSoFar operands_of l.self l.xs (sorted.contains nat_cmp l.left) l.made_of.items

abbrev pub decreases-loop-i : goal.decreases-loop-i
decreases-loop-i l = top l.left.keys
