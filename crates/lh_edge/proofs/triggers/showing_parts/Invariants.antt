use Rattle.std.proofs.Common.{◌≡◌, ◌≤◌, drop, length}
use Rattle.lh_term.specs.Arena.{trees_at}
use Rattle.lh_edge.specs.Shown.{showing_parts}
use Rattle.lh_edge.specs.Triggers.{in_order}
use Rattle.lh_edge.proofs.triggers.showing_parts.Given as goal

abbrev pub invariant-loop-k : goal.invariant-loop-k
invariant-loop-k l = record {
  within : l.k ≤ length l.atoms;
  so_far : l.parts.items ≡ in_order (showing_parts l.fn.waited (trees_at l.terms (drop l.k l.atoms)));
}

abbrev pub decreases-loop-k : goal.decreases-loop-k
decreases-loop-k l = l.k
