use Rattle.std.proofs.Common.{◌≡◌}
use Rattle.lh_term.specs.Arena.{tree_at, trees, trees_at}
use Rattle.lh_edge.specs.Steps.{table_from}
use Rattle.lh_edge.proofs.table.truth_table.Given as goal

abbrev pub invariant-loop-valuation : goal.invariant-loop-valuation
invariant-loop-valuation l = l.table.items ≡ table_from (trees_at l.terms l.atoms) (tree_at (trees l.terms) l.edge) 0 l.valuation
