-- Terms as the lines of an entity say them: a `mux` of two values that are known is a choice, and a term is made anew from its leaves.
use Rattle.std.specs.Prelude.{List, [], ◌∷◌, Option, Some, None, if◌then◌else◌}
use Rattle.lh_types.specs.Values.{array_value, no_values, more_values}
use Rattle.lh_types.specs.declared.op.Op.{Op}
use Rattle.lh_types.specs.declared.op.Op.TheVariants.{Mux, Array}
use Rattle.lh_term.specs.Tree.{Tree, TreeRow, constant, past_of, now_of, operation, choice_of, no_trees, more_trees}
use Rattle.lh_term.specs.Make.{make_operation, make_choice}
use Rattle.lh_edge.specs.Atoms.{is_one_bit}

-- the two elements of an array that is known: a constant of two, or the array operation on two terms
abbrev pub pair_in : Tree → Option (Tree × Tree)
pair_in (constant (array_value (more_values f (more_values t no_values)))) = Some (constant f, constant t)
pair_in (operation Array (more_trees f (more_trees t no_trees))) = Some (f, t)
pair_in _ = None

-- what `mux` gives: a choice between two elements, where they are known
abbrev pub selected : (x s : Tree) → Option (Tree × Tree) → Tree
selected x s (Some p) = make_choice s p.0 p.1
selected x s None = make_operation Mux (x ∷ s ∷ [])

-- An operation as read: a `mux` by one bit of an array whose two elements are known is a choice, and any other operation is as made.
abbrev pub read_operation : Op → List Tree → Tree
read_operation Mux (x ∷ s ∷ []) = selected x s (if is_one_bit s then pair_in x else None)
read_operation op ts = make_operation op ts

abbrev mutual
  -- A term read again from its leaves. The value of a part before is its value now, since an entity knows the present alone.
  pub rebuilt : Tree → Tree
  rebuilt (constant v) = constant v
  rebuilt (past_of p) = now_of p
  rebuilt (now_of p) = now_of p
  rebuilt (operation op ts) = read_operation op (rebuilt_row ts)
  rebuilt (choice_of c f t) = make_choice (rebuilt c) (rebuilt f) (rebuilt t)

  -- operands in order
  pub rebuilt_row : TreeRow → List Tree
  rebuilt_row no_trees = []
  rebuilt_row (more_trees t ts) = rebuilt t ∷ rebuilt_row ts
