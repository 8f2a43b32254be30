-- A term as contracts see it: a tree.
use Rattle.std.specs.Prelude.{List, [], ◌∷◌}
use Rattle.lh_types.specs.Values.{Datum}
use Rattle.lh_types.specs.declared.op.Op.{Op}
use Rattle.lh_term.specs.declared.part.Part.{Part}

mutual
  -- a constant, a part's value before or now, an operation on terms, or a choice by a condition: the second term
  -- where it is 0, and the third where it is 1
  pub data Tree : Type 0 where
    constant : Datum → Tree
    past_of : Part → Tree
    now_of : Part → Tree
    operation : Op → TreeRow → Tree
    choice_of : Tree → Tree → Tree → Tree

  -- the operands in order
  pub data TreeRow : Type 0 where
    no_trees : TreeRow
    more_trees : Tree → TreeRow → TreeRow

-- the operands of a list in order
abbrev pub tree_row : List Tree → TreeRow
tree_row [] = no_trees
tree_row (t ∷ ts) = more_trees t (tree_row ts)

-- an operation on the terms of a list
abbrev pub operation_on : Op → List Tree → Tree
operation_on op ts = operation op (tree_row ts)
