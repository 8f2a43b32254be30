-- What was made in the places of terms, by their ids.
use Rattle.std.specs.Prelude.{◌≡◌, ℕ, List, [], ◌∷◌, slice_get, Option, Some, None}
use Rattle.lh_term.specs.Tree.{Tree, constant}
use Rattle.lh_term.specs.Arena.{tree_at, trees, terms_in, IsIn, StandsForTree}
use Rattle.lh_term.specs.Reach.{operands_of, AreMade}
use Rattle.lh_term.specs.declared.term.TermId.{TermId}
use Rattle.lh_term.specs.declared.term.Term.{Term}
use Rattle.lh_term.specs.declared.term.TermNode.{TermNode}
use Rattle.lh_types.specs.Values.{Datum, array_value, no_values, more_values}
use Rattle.lh_types.specs.ValueOf.{datum_of}
use Rattle.lh_types.specs.declared.op.Op.{Op}
use Rattle.lh_types.specs.declared.op.Op.TheVariants.{Array}
use Rattle.lh_types.specs.declared.val.Val.{Val}
use Rattle.lh_term.specs.Types.{FitsTerm}
use Rattle.lh_cert_terms.specs.Rebuilding.{rebuilt}

-- what was made for terms of the old arena stands for them, read again
abbrev pub AreRebuilt : (old new : List TermNode) → (ℕ → Option TermId) → Type 0
AreRebuilt old new made = (x y : TermId) → made x.0 ≡ Some y → IsIn old x × StandsForTree new y (rebuilt (tree_at (trees old) x))

-- something was made for each operand of a term
abbrev pub OperandsMade : List TermNode → (ℕ → Option TermId) → TermId → Type 0
OperandsMade ns made x = (k : Term) → slice_get (terms_in ns) x.0 ≡ Some k → AreMade made (operands_of k)

-- two ids of the arena stand for the two trees, if there are two
abbrev pub FindsTwo : List TermNode → Option (TermId × TermId) → Option (Tree × Tree) → Type 0
FindsTwo ns None x = x ≡ None
FindsTwo ns (Some p) x = IsIn ns p.0 × IsIn ns p.1 × (x ≡ Some (tree_at (trees ns) p.0, tree_at (trees ns) p.1))

-- the operands of the array operation, if they are two
abbrev pub array_operands : Op → List TermId → Option (TermId × TermId)
array_operands Array (f ∷ t ∷ []) = Some (f, t)
array_operands op xs = None

-- the values of a list, if they are two
abbrev pub two_in : List Datum → Option (Datum × Datum)
two_in (f ∷ t ∷ []) = Some (f, t)
two_in _ = None

-- the elements of an array, if they are two
abbrev pub elements_in : Datum → Option (Datum × Datum)
elements_in (array_value (more_values f (more_values t no_values))) = Some (f, t)
elements_in _ = None

abbrev pub data_of : Option (Val × Val) → Option (Datum × Datum)
data_of (Some p) = Some (datum_of p.0, datum_of p.1)
data_of None = None

-- both values, if they are there, are of a data type or times
abbrev pub BothFit : Option (Datum × Datum) → Type 0
BothFit (Some p) = FitsTerm p.0 × FitsTerm p.1
BothFit None = Unit {0}

-- the constants of two values
abbrev pub constants_of : Option (Datum × Datum) → Option (Tree × Tree)
constants_of (Some p) = Some (constant p.0, constant p.1)
constants_of None = None
