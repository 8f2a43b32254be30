-- The conjuncts of a condition.
use Rattle.std.specs.Prelude.{Bool, true, false, List, [], ◌∷◌, ◌++◌, if◌then◌else◌}
use Rattle.std.specs.List.{list_any}
use Rattle.lh_types.specs.Types.{int_type, same_type}
use Rattle.lh_types.specs.declared.op.Op.{Op}
use Rattle.lh_types.specs.declared.op.Op.TheVariants.{And}
use Rattle.lh_term.specs.Tree.{Tree, TreeRow, constant, past_of, now_of, operation, choice_of, no_trees, more_trees}
use Rattle.lh_term.specs.Types.{types_of, row_result}
use Rattle.lh_term.specs.SameTree.{same_tree}
use Rattle.lh_term.specs.Make.{is_bit_value, bit_of, make_operation}

-- whether these operands are joined on one bit
abbrev pub joins_bits : Op → TreeRow → Bool
joins_bits And ts = same_type (row_result And (types_of ts)) (int_type 1)
joins_bits op ts = false

abbrev mutual
  -- the conjuncts in order: those of both operands of `and` on one bit, none of the constant 1, else the term
  pub all_conjuncts : Tree → List Tree
  all_conjuncts (operation op ts) = if joins_bits op ts then joined_conjuncts ts else operation op ts ∷ []
  all_conjuncts (constant v) = if is_bit_value 1 v then [] else constant v ∷ []
  all_conjuncts (past_of p) = past_of p ∷ []
  all_conjuncts (now_of p) = now_of p ∷ []
  all_conjuncts (choice_of c f t) = choice_of c f t ∷ []

  -- those of operands, one after the other
  pub joined_conjuncts : TreeRow → List Tree
  joined_conjuncts no_trees = []
  joined_conjuncts (more_trees t ts) = all_conjuncts t ++ joined_conjuncts ts

-- the list with a term at its end, if it is not there
abbrev pub with_term : List Tree → Tree → List Tree
with_term ks t = if list_any (same_tree t) ks then ks else ks ++ t ∷ []

-- the list with each of some terms
abbrev pub with_terms : List Tree → List Tree → List Tree
with_terms ks [] = ks
with_terms ks (t ∷ ts) = with_terms (with_term ks t) ts

-- the conjuncts of a term; one that repeats counts once
abbrev pub conjuncts_of : Tree → List Tree
conjuncts_of t = with_terms [] (all_conjuncts t)

-- the conjunction of terms from the left, which starts with 1
abbrev pub conjunction_from : Tree → List Tree → Tree
conjunction_from k [] = k
conjunction_from k (t ∷ ts) = conjunction_from (make_operation And (k ∷ t ∷ [])) ts

abbrev pub conjunction : List Tree → Tree
conjunction ts = conjunction_from (bit_of true) ts
