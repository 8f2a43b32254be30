-- The edge part of a condition and its atoms.
use Rattle.std.specs.Prelude.{Bool, true, false, ◌&&◌, ◌||◌, if◌then◌else◌, List, [], ◌∷◌, ◌++◌}
use Rattle.std.specs.List.{list_any, filter}
use Rattle.lh_types.specs.Types.{int_type, same_type}
use Rattle.lh_types.specs.declared.op.Op.{Op}
use Rattle.lh_types.specs.declared.op.Op.TheVariants.{Not, And, Or, Xor, Eq, Neq}
use Rattle.lh_term.specs.Tree.{Tree, TreeRow, constant, past_of, now_of, operation, choice_of, no_trees, more_trees}
use Rattle.lh_term.specs.Types.{type_of}
use Rattle.lh_term.specs.SameTree.{same_tree}
use Rattle.lh_term.specs.Conjuncts.{conjuncts_of, conjunction}

abbrev mutual
  -- whether a part's value before is in the term
  pub contains_past : Tree → Bool
  contains_past (constant v) = false
  contains_past (past_of p) = true
  contains_past (now_of p) = false
  contains_past (operation op ts) = some_past ts
  contains_past (choice_of c f t) = contains_past c || (contains_past f || contains_past t)

  -- whether it is in one of the operands
  pub some_past : TreeRow → Bool
  some_past no_trees = false
  some_past (more_trees t ts) = contains_past t || some_past ts

-- the edge part of a condition: the conjunction of its conjuncts that contain a value before
unfoldable pub edge_part : Tree → Tree
edge_part c = conjunction (filter contains_past (conjuncts_of c))

-- whether the term is of one bit
abbrev pub is_one_bit : Tree → Bool
is_one_bit t = same_type (type_of t) (int_type 1)

-- whether each operand is
abbrev pub are_one_bit : TreeRow → Bool
are_one_bit no_trees = true
are_one_bit (more_trees t ts) = is_one_bit t && are_one_bit ts

-- the operations that are connectives where their operands are of one bit
abbrev pub connects : Op → Bool
connects Not = true
connects And = true
connects Or = true
connects Xor = true
connects Eq = true
connects Neq = true
connects op = false

-- whether an operation on these operands is a connective
abbrev pub is_connective : Op → TreeRow → Bool
is_connective op ts = connects op && are_one_bit ts

abbrev mutual
  -- the maximal subterms that are no connective, from left to right; constants of one bit and choices of one bit are connectives
  pub subterms : Tree → List Tree
  subterms (constant v) = if is_one_bit (constant v) then [] else constant v ∷ []
  subterms (past_of p) = past_of p ∷ []
  subterms (now_of p) = now_of p ∷ []
  subterms (operation op ts) = if is_connective op ts then subterms_in ts else operation op ts ∷ []
  subterms (choice_of c f t) = if is_one_bit f then subterms c ++ (subterms f ++ subterms t) else choice_of c f t ∷ []

  -- those of operands
  pub subterms_in : TreeRow → List Tree
  subterms_in no_trees = []
  subterms_in (more_trees t ts) = subterms t ++ subterms_in ts

-- for each part's value before among terms, its value now
abbrev pub presents : List Tree → List Tree
presents [] = []
presents (past_of p ∷ ts) = now_of p ∷ presents ts
presents (t ∷ ts) = presents ts

-- whether the term is in the list
abbrev pub has : List Tree → Tree → Bool
has ts t = list_any (λ x. same_tree x t) ts

-- the terms of a list, each once: of those that repeat, the last
abbrev pub each_once : List Tree → List Tree
each_once [] = []
each_once (t ∷ ts) = if has ts t then each_once ts else t ∷ each_once ts

-- the atoms of a term: its maximal subterms that are no connective, and for each part's value before its value now
unfoldable pub atoms_of : Tree → List Tree
atoms_of e = each_once (subterms e ++ presents (subterms e))
