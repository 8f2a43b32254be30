use Rattle.std.specs.Ordering.{nat_cmp}
use Rattle.std.specs.BTreeSet as sorted
use Rattle.lh_term.specs.Arena.{trees}
use Rattle.lh_term.proofs.Greatest.{top}
use Rattle.lh_term.proofs.TermWalks.{ReachedSoFar}
use Rattle.lh_edge.specs.Reached.{joined_by}
use Rattle.lh_edge.proofs.reach.joined_of.Given as goal

abbrev pub invariant-loop-i : goal.invariant-loop-i
invariant-loop-i l = ReachedSoFar (joined_by (trees l.terms)) l.terms l.xs (sorted.contains nat_cmp l.left) l.joined.items

abbrev pub decreases-loop-i : goal.decreases-loop-i
decreases-loop-i l = top l.left.keys
