use Rattle.std.proofs.Common.{◌≤◌, length, take}
use Rattle.lh_term.specs.Arena.{tree_at, trees}
use Rattle.lh_edge.specs.Atoms.{subterms}
use Rattle.lh_edge.proofs.Found.{FoundSoFar}
use Rattle.lh_edge.proofs.atoms.found_subterms.Given as goal

abbrev pub invariant-loop-x : goal.invariant-loop-x
invariant-loop-x l = record { so_far : FoundSoFar l.terms (subterms (tree_at (trees l.terms) l.fn._edge)) l.found.items (take l.x-index l.joined); few : length l.found.items ≤ 12 }
