use Rattle.std.proofs.Common.{◌≤◌, length, take}
use Rattle.lh_edge.proofs.Found.{FoundSoFar}
use Rattle.lh_cert_agree.proofs.Found.{both_subterms}
use Rattle.lh_cert_agree.proofs.atoms.atoms_among.Given as goal

abbrev pub invariant-loop-x : goal.invariant-loop-x
invariant-loop-x l = record { so_far : FoundSoFar l.terms (both_subterms l.terms l.fn._a l.fn._b) l.found.items (take l.x-index l.joined); few : length l.found.items ≤ 12 }
