-- Laws of terms, for the crates that compute with them.
use Rattle.std.specs.Prelude.{◌≡◌, ◌<◌, ◌↔◌, ◌^◌, Bool, true, List, [], ◌∷◌}
use Rattle.lh_types.specs.Types.{int_type}
use Rattle.lh_types.specs.Values.{Datum}
use Rattle.lh_types.specs.Fits.{FitsType}
use Rattle.lh_types.specs.Apply.{apply, bit_value}
use Rattle.lh_types.specs.declared.op.Op.{Op}
use Rattle.lh_term.specs.Tree.{Tree, TreeRow, operation, choice_of, tree_row, operation_on}
use Rattle.lh_term.specs.Types.{IsTyped, type_of}
use Rattle.lh_term.specs.Mean.{Valuation, IsFitting, mean}
use Rattle.lh_term.specs.Make.{make_operation, make_choice}
use Rattle.lh_term.specs.Conjuncts.{conjuncts_of, conjunction}
use Rattle.lh_term.specs.Subst.{AreSwaps, SecondsTyped, swapped, past_with, now_with}

-- what a term means is of its type
abbrev pub MeaningsFit : Type 0
MeaningsFit = (past now : Valuation) → IsFitting past → IsFitting now → (t : Tree) → IsTyped t → FitsType (mean past now t) (type_of t)

-- the terms have one type and mean the same under all values of the parts
pub record MeansSame (x y : Tree) : Type 0 where
  pub typed : IsTyped x
  pub type : type_of x ≡ type_of y
  pub mean : (past now : Valuation) → IsFitting past → IsFitting now → mean past now x ≡ mean past now y

-- an operation as made means what the operation does
abbrev pub OperationsKeepMeaning : Type 0
OperationsKeepMeaning = (op : Op) (ts : List Tree) → IsTyped (operation_on op ts) → MeansSame (make_operation op ts) (operation_on op ts)

-- a choice as made means what the choice does
abbrev pub ChoicesKeepMeaning : Type 0
ChoicesKeepMeaning = (c f t : Tree) → IsTyped (choice_of c f t) → MeansSame (make_choice c f t) (choice_of c f t)

-- a condition means what the conjunction of its conjuncts does
abbrev pub ConditionsAreConjunctions : Type 0
ConditionsAreConjunctions = (t : Tree) → IsTyped t → type_of t ≡ int_type 1 → MeansSame (conjunction (conjuncts_of t)) t

-- x has the type of t, and means what t does where the parts that are replaced have the values of what takes their places
pub record SwapKeeps (by : List (Tree × Tree)) (t x : Tree) : Type 0 where
  pub typed : IsTyped x
  pub type : type_of x ≡ type_of t
  pub mean : (past now : Valuation) → IsFitting past → IsFitting now → mean past now x ≡ mean (past_with by past now) (now_with by past now) t

-- a term with parts' values replaced means the term under the changed values
abbrev pub SwapsKeepMeaning : Type 0
SwapsKeepMeaning = (by : List (Tree × Tree)) → AreSwaps by → SecondsTyped by → (t : Tree) → IsTyped t → SwapKeeps by t (swapped by t)
