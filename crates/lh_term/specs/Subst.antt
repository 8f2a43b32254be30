-- Terms in place of parts' values before and now.
use Rattle.std.specs.Prelude.{◌≡◌, Bool, true, false, List, [], ◌∷◌, if◌then◌else◌}
use Rattle.lh_term.specs.declared.part.Part.{Part}
use Rattle.lh_term.specs.declared.term.TermId.{TermId}
use Rattle.lh_term.specs.declared.term.TermNode.{TermNode}
use Rattle.lh_term.specs.Tree.{Tree, TreeRow, constant, past_of, now_of, operation, choice_of, no_trees, more_trees}
use Rattle.lh_term.specs.Types.{IsTyped, type_of}
use Rattle.lh_term.specs.Mean.{Valuation, mean}
use Rattle.lh_term.specs.SameTree.{same_tree}
use Rattle.lh_term.specs.Make.{make_operation, make_choice}
use Rattle.lh_term.specs.Arena.{tree_at, trees, IsIn}

-- the terms of pairs of ids
abbrev pub pairs_at : List TermNode → List (TermId × TermId) → List (Tree × Tree)
pairs_at ns [] = []
pairs_at ns (p ∷ ps) = (tree_at (trees ns) p.0, tree_at (trees ns) p.1) ∷ pairs_at ns ps

-- the second of the first pair whose first is the term, else the term
abbrev pub replaced : List (Tree × Tree) → Tree → Tree
replaced [] t = t
replaced (p ∷ ps) t = if same_tree p.0 t then p.1 else replaced ps t

-- a part's value before or now
abbrev pub IsLeaf : Tree → Type 0
IsLeaf (past_of p) = Unit {0}
IsLeaf (now_of p) = Unit {0}
IsLeaf _ = ⊥

-- whether the term is first in some pair
abbrev pub is_first : List (Tree × Tree) → Tree → Bool
is_first [] t = false
is_first (p ∷ ps) t = if same_tree p.0 t then true else is_first ps t

-- the first of each pair is a part's value, and first in no other pair; the two are of one type
abbrev pub AreSwaps : List (Tree × Tree) → Type 0
AreSwaps [] = Unit {0}
AreSwaps (p ∷ ps) = IsLeaf p.0 × (is_first ps p.0 ≡ false) × (type_of p.0 ≡ type_of p.1) × AreSwaps ps

-- the terms that take places are typed
abbrev pub SecondsTyped : List (Tree × Tree) → Type 0
SecondsTyped [] = Unit {0}
SecondsTyped (p ∷ ps) = IsTyped p.1 × SecondsTyped ps

-- both ids of each pair are of the arena
abbrev pub PairsIn : List TermNode → List (TermId × TermId) → Type 0
PairsIn ns [] = Unit {0}
PairsIn ns (p ∷ ps) = IsIn ns p.0 × IsIn ns p.1 × PairsIn ns ps

abbrev mutual
  -- the term with the values of parts replaced, made anew by the equations
  pub swapped : List (Tree × Tree) → Tree → Tree
  swapped by (constant v) = constant v
  swapped by (past_of p) = replaced by (past_of p)
  swapped by (now_of p) = replaced by (now_of p)
  swapped by (operation op ts) = make_operation op (swapped_row by ts)
  swapped by (choice_of c f t) = make_choice (swapped by c) (swapped by f) (swapped by t)

  pub swapped_row : List (Tree × Tree) → TreeRow → List Tree
  swapped_row by no_trees = []
  swapped_row by (more_trees t ts) = swapped by t ∷ swapped_row by ts

-- the values before and now, with those of the terms that take their places
abbrev pub past_with : List (Tree × Tree) → Valuation → Valuation → Valuation
past_with by past now p = mean past now (replaced by (past_of p))

abbrev pub now_with : List (Tree × Tree) → Valuation → Valuation → Valuation
now_with by past now p = mean past now (replaced by (now_of p))
