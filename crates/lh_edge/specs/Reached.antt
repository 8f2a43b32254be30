-- The terms that connectives of bits join to a term, and what is known of terms by their ids.
use Rattle.std.specs.Prelude.{◌≡◌, ℕ, Bool, true, not, if◌then◌else◌, slice_get, List, [], ◌∷◌, map, Some}
use Rattle.lh_term.specs.declared.term.TermId.{TermId}
use Rattle.lh_term.specs.declared.term.Term.{Term}
use Rattle.lh_term.specs.declared.term.TermNode.{TermNode}
use Rattle.lh_term.specs.declared.term.Term.TheVariants.{Op as Applied, Choice}
use Rattle.lh_term.specs.Tree.{Tree, constant, past_of, now_of, operation, choice_of, tree_row}
use Rattle.lh_term.specs.Arena.{tree_at, trees, terms_in}
use Rattle.lh_term.specs.Reach.{Leads}
use Rattle.lh_edge.specs.Atoms.{is_one_bit, is_connective}

-- ---- the terms that a term is joined of

-- the terms that a connective joins
abbrev pub joined_by : List Tree → Term → List TermId
joined_by ts (Applied op args) = if is_connective op (tree_row (map (tree_at ts) args)) then args else []
joined_by ts (Choice c f t) = if is_one_bit (tree_at ts f) then c ∷ f ∷ t ∷ [] else []
joined_by ts _ = []

-- whether the term is no connective
abbrev pub is_atom : Tree → Bool
is_atom (constant v) = not (is_one_bit (constant v))
is_atom (past_of p) = true
is_atom (now_of p) = true
is_atom (operation op ts) = not (is_connective op ts)
is_atom (choice_of c f t) = not (is_one_bit f)

-- ---- what is told of terms

-- f says of each of these ids whether its term passes p
abbrev pub TellsPassed : List TermNode → (Tree → Bool) → (ℕ → Bool) → List TermId → Type 0
TellsPassed ns p f [] = Unit {0}
TellsPassed ns p f (x ∷ xs) = (f x.0 ≡ p (tree_at (trees ns) x)) × TellsPassed ns p f xs

-- it does of those to which x leads
abbrev pub TellsNext : Leads → List TermNode → (Tree → Bool) → (ℕ → Bool) → TermId → Type 0
TellsNext leads ns p f x = (k : Term) → slice_get (terms_in ns) x.0 ≡ Some k → TellsPassed ns p f (leads k)
