-- When two terms agree: they are one, or of one bit and the same at every valuation of at most twelve atoms.
use Rattle.std.specs.Prelude.{Bool, not, ◌&&◌, ◌||◌, nat_le, List, ◌++◌, length}
use Rattle.std.specs.List.{list_all}
use Rattle.lh_term.specs.Tree.{Tree}
use Rattle.lh_term.specs.SameTree.{same_tree}
use Rattle.lh_edge.specs.Atoms.{is_one_bit, subterms, each_once}
use Rattle.lh_edge.specs.Valuations.{differ, holds, all_valuations}

-- the maximal subterms of both terms that are no connective, each once
abbrev pub atoms_of_both : Tree → Tree → List Tree
atoms_of_both a b = each_once (subterms a ++ subterms b)

-- whether a valuation gives both terms the same bit
abbrev pub same_bit : Tree → Tree → (Tree → Bool) → Bool
same_bit a b v = not (differ (holds v a) (holds v b))

-- whether there are at most twelve atoms, and every valuation of them gives both terms the same bit
abbrev pub agree_by : List Tree → Tree → Tree → Bool
agree_by atoms a b = nat_le (length atoms) 12 && list_all (same_bit a b) (all_valuations atoms)

-- whether two terms agree
unfoldable pub agree : Tree → Tree → Bool
agree a b = same_tree a b || (is_one_bit a && (is_one_bit b && agree_by (atoms_of_both a b) a b))
