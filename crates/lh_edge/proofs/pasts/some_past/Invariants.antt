use Rattle.std.proofs.Common.{◌≡◌, nat_eq, length}
use Rattle.std.specs.List.{list_any}
use Rattle.std.specs.HashSet as hash
use Rattle.lh_term.specs.Arena.{trees_at}
use Rattle.lh_edge.specs.Atoms.{contains_past}
use Rattle.lh_edge.specs.Reached.{TellsPassed}
use Rattle.lh_edge.proofs.pasts.some_past.Given as goal

abbrev pub invariant-loop-left : goal.invariant-loop-left
invariant-loop-left l = record {
  tells : TellsPassed l._terms contains_past (hash.contains nat_eq l.pasts) l.left;
  same : list_any contains_past (trees_at l._terms l.left) ≡ list_any contains_past (trees_at l._terms l.xs);
}

abbrev pub decreases-loop-left : goal.decreases-loop-left
decreases-loop-left l = length l.left
