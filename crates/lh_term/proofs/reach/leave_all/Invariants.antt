use Rattle.std.proofs.Common.{◌≡◌, ◌||◌, ℕ, drop}
use Rattle.std.specs.Ordering.{nat_cmp}
use Rattle.std.specs.BTreeSet as sorted
use Rattle.lh_term.specs.Reach.{is_on}
use Rattle.lh_term.proofs.reach.leave_all.Given as goal

abbrev pub invariant-loop-x : goal.invariant-loop-x
invariant-loop-x l =
    (q : ℕ) → (is_on (drop l.x-index l.xs) q || sorted.contains nat_cmp l.left q) ≡ (is_on l.fn.xs q || sorted.contains nat_cmp l.fn.left q)
