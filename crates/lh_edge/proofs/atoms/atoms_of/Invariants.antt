use Rattle.lh_term.specs.Arena.{tree_at, trees}
use Rattle.lh_edge.proofs.Found.{PresentSoFar}
use Rattle.lh_edge.proofs.atoms.atoms_of.Given as goal

abbrev pub invariant-loop-k : goal.invariant-loop-k
invariant-loop-k l = PresentSoFar l.fn.terms l.terms (tree_at (trees l.fn.terms) l.fn.edge) l.initial.atoms.items l.atoms.items l.k
