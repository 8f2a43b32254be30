-- Whether a term of one bit holds where its atoms have given truth values.
use Rattle.std.specs.Prelude.{Bool, true, false, not, ◌&&◌, ◌||◌, if◌then◌else◌, List, [], ◌∷◌, ◌++◌}
use Rattle.lh_types.specs.declared.op.Op.{Op}
use Rattle.lh_types.specs.declared.op.Op.TheVariants.{Not, And, Or, Xor, Eq, Neq}
use Rattle.lh_term.specs.Tree.{Tree, TreeRow, constant, past_of, now_of, operation, choice_of, no_trees, more_trees}
use Rattle.lh_term.specs.SameTree.{same_tree}
use Rattle.lh_term.specs.Make.{is_bit_value}
use Rattle.lh_edge.specs.Atoms.{is_one_bit, is_connective}

-- whether two bits differ
abbrev pub differ : Bool → Bool → Bool
differ true b = not b
differ false b = b

-- what a connective gives for the bits of its operands
abbrev pub connected : Op → List Bool → Bool
connected Not (a ∷ []) = not a
connected And (a ∷ b ∷ []) = a && b
connected Or (a ∷ b ∷ []) = a || b
connected Xor (a ∷ b ∷ []) = differ a b
connected Neq (a ∷ b ∷ []) = differ a b
connected Eq (a ∷ b ∷ []) = not (differ a b)
connected _ _ = false

abbrev mutual
  -- the bit of a term, by those of its atoms
  pub holds : (Tree → Bool) → Tree → Bool
  holds v (constant d) = if is_one_bit (constant d) then is_bit_value 1 d else v (constant d)
  holds v (past_of p) = v (past_of p)
  holds v (now_of p) = v (now_of p)
  holds v (operation op ts) = if is_connective op ts then connected op (bits_of v ts) else v (operation op ts)
  holds v (choice_of c f t) = if is_one_bit f then (if holds v c then holds v t else holds v f) else v (choice_of c f t)

  -- the bits of operands
  pub bits_of : (Tree → Bool) → TreeRow → List Bool
  bits_of v no_trees = []
  bits_of v (more_trees t ts) = holds v t ∷ bits_of v ts

-- the valuation with another bit for one atom
abbrev pub with_bit : Tree → Bool → (Tree → Bool) → Tree → Bool
with_bit a b v t = if same_tree a t then b else v t

-- all valuations that are as one but for these atoms
abbrev pub changed : List Tree → (Tree → Bool) → List (Tree → Bool)
changed [] v = v ∷ []
changed (a ∷ more) v = changed more (with_bit a false v) ++ changed more (with_bit a true v)

-- all valuations of atoms
abbrev pub all_valuations : List Tree → List (Tree → Bool)
all_valuations atoms = changed atoms (λ t. false)
