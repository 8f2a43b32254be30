-- Need of a term step by step: the terms that it is made of, and then the instruction that gives it.
use Rattle.std.specs.Prelude.{◌≡◌, ℕ, ◌+◌, List, [], ◌∷◌, Bool, true, Some, map}
use Rattle.std.specs.Option.{is_none}
use Rattle.lh_types.specs.Faults.{array_fault}
use Rattle.lh_types.specs.Values.{Datum, DatumRow, int_value, time_value, array_value, tuple_value, no_values, more_values}
use Rattle.lh_types.specs.declared.op.Op.TheVariants.{Mux, Array, Tuple}
use Rattle.lh_unit.specs.Contents.{const_text}
use Rattle.lh_unit.specs.Within.{Each}
use Rattle.lh_term.specs.Tree.{Tree, TreeRow, constant, past_of, now_of, operation, choice_of, no_trees, more_trees}
use Rattle.lh_term.specs.Types.{type_of}
use Rattle.lh_emit_def.specs.Emitted.{Source, Emitted, gives_term, need_part}
use Rattle.lh_emit_def.specs.Needs.{gives_operation, constants, operands_in, probe, pair_of, need}

-- ---- one term

-- the terms that a term is made of, in the order in which they are needed
abbrev pub made_of : Tree → List Tree
made_of (constant (int_value w b)) = []
made_of (constant (time_value d)) = []
made_of (constant (array_value vs)) = constants vs
made_of (constant (tuple_value vs)) = constants vs
made_of (past_of p) = []
made_of (now_of p) = []
made_of (operation op ts) = operands_in ts
made_of (choice_of c f t) = pair_of f t ∷ c ∷ []

-- the instruction that gives a term, whose terms were emitted; a part that is probed is needed before
abbrev pub makes : Source → Tree → Emitted → Emitted
makes s (constant (int_value w b)) e = gives_term s (constant (int_value w b)) (const_text (int_value w b)) e
makes s (constant (time_value d)) e = gives_term s (constant (time_value d)) (const_text (time_value d)) e
makes s (constant (array_value vs)) e = gives_operation s (constant (array_value vs)) Array (constants vs) e
makes s (constant (tuple_value vs)) e = gives_operation s (constant (tuple_value vs)) Tuple (constants vs) e
makes s (past_of p) e = probe s (past_of p) p (need_part s p e)
makes s (now_of p) e = probe s (now_of p) p (need_part s p e)
makes s (operation op ts) e = gives_operation s (operation op ts) op (operands_in ts) e
makes s (choice_of c f t) e = gives_operation s (choice_of c f t) Mux (pair_of f t ∷ c ∷ []) e

-- a choice has an array of both its terms
abbrev pub has_pair : Tree → Bool
has_pair (choice_of c f t) = is_none (array_fault 2 (type_of f))
has_pair t = true

-- ---- what is still to be done

-- need of a term, or its instruction alone
pub data Step : Type 0 where
  need_of : Tree → Step
  make_of : Tree → Step

-- need of terms in order
abbrev pub needs : Source → List Tree → Emitted → Emitted
needs s [] e = e
needs s (t ∷ ts) e = needs s ts (need s t e)

-- the steps in order
abbrev pub takes : Source → List Step → Emitted → Emitted
takes s [] e = e
takes s (need_of t ∷ more) e = takes s more (need s t e)
takes s (make_of t ∷ more) e = takes s more (makes s t e)

-- the term was emitted
abbrev pub HasName : Emitted → Tree → Type 0
HasName e t = (n : List ℕ) × (e.terms t ≡ Some n)

-- where the turn of an instruction comes, the terms that it is made of were emitted
abbrev pub TermsAreReady : Source → List Step → Emitted → Type 0
TermsAreReady s [] e = Unit {0}
TermsAreReady s (need_of t ∷ more) e = TermsAreReady s more (need s t e)
TermsAreReady s (make_of t ∷ more) e = Each (HasName e) (made_of t) × TermsAreReady s more (makes s t e)

-- ---- sizes

abbrev mutual
  -- a number that is larger than those of the values that it is made of together
  pub datum_size : Datum → ℕ
  datum_size (int_value w b) = 2
  datum_size (time_value d) = 2
  datum_size (array_value vs) = 2 + datum_sizes vs
  datum_size (tuple_value vs) = 2 + datum_sizes vs

  pub datum_sizes : DatumRow → ℕ
  datum_sizes no_values = 0
  datum_sizes (more_values v vs) = datum_size v + datum_sizes vs

abbrev mutual
  -- the same of a term
  pub tree_size : Tree → ℕ
  tree_size (constant v) = datum_size v
  tree_size (past_of p) = 2
  tree_size (now_of p) = 2
  tree_size (operation op ts) = 2 + row_size ts
  tree_size (choice_of c f t) = 4 + (tree_size c + (tree_size f + tree_size t))

  pub row_size : TreeRow → ℕ
  row_size no_trees = 0
  row_size (more_trees t ts) = tree_size t + row_size ts

abbrev pub trees_size : List Tree → ℕ
trees_size [] = 0
trees_size (t ∷ ts) = tree_size t + trees_size ts

abbrev pub step_size : Step → ℕ
step_size (need_of t) = tree_size t
step_size (make_of t) = 1

abbrev pub steps_size : List Step → ℕ
steps_size [] = 0
steps_size (x ∷ xs) = step_size x + steps_size xs
