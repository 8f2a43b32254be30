-- Which operands a row takes, and the type of what it gives.
use Rattle.std.specs.Prelude.{◌≡◌, ℕ, ◌<◌, List, [], ◌∷◌, length, replicate, option_map, Some}
use Rattle.lh_types.specs.Types.{TypeTree, int_type, array_type, tuple_type, row_of, AreData}
use Rattle.lh_types.specs.Values.{Datum, data_row}
use Rattle.lh_types.specs.Fits.{FitsRow}
use Rattle.lh_types.specs.Parts.{step_part}
use Rattle.lh_types.specs.declared.part.Step.{Step}
use Rattle.lh_types.specs.Classes.{class_of}
use Rattle.lh_types.specs.declared.op.Op.{Op}
use Rattle.lh_types.specs.declared.op.OpClass.{OpClass}
use Rattle.lh_types.specs.declared.op.OpClass.TheVariants as class

-- r is the type of the part of t that the step leads to
abbrev pub PartHasType : TypeTree → Step → TypeTree → Type 0
PartHasType t s r = option_map (λ p. p.of) (step_part t s) ≡ Some r

-- one integer, and a result of its type
abbrev pub OneInteger : List TypeTree → TypeTree → Type 0
OneInteger ts r = (n : ℕ) × (ts ≡ int_type n ∷ []) × (r ≡ int_type n)

-- two integers of one type, and a result of this type
abbrev pub TwoIntegers : List TypeTree → TypeTree → Type 0
TwoIntegers ts r = (n : ℕ) × (ts ≡ int_type n ∷ int_type n ∷ []) × (r ≡ int_type n)

-- two integers of one type, and a truth value
abbrev pub ComparesIntegers : List TypeTree → TypeTree → Type 0
ComparesIntegers ts r = (n : ℕ) × (ts ≡ int_type n ∷ int_type n ∷ []) × (r ≡ int_type 1)

-- two values of one type, and a truth value
abbrev pub ComparesValues : List TypeTree → TypeTree → Type 0
ComparesValues ts r = (t : TypeTree) × (ts ≡ t ∷ t ∷ []) × (r ≡ int_type 1)

-- two integers of one type and an amount of any integer type
abbrev pub Shifts : List TypeTree → TypeTree → Type 0
Shifts ts r = (n w : ℕ) × (ts ≡ int_type n ∷ int_type n ∷ int_type w ∷ []) × (r ≡ int_type n)

-- an operation of the class takes operands of these types and gives a value of type r
abbrev pub ClassType : OpClass → List TypeTree → TypeTree → Type 0
ClassType class.Unary ts r = OneInteger ts r
ClassType class.Binary ts r = TwoIntegers ts r
ClassType class.Relation ts r = ComparesIntegers ts r
ClassType class.Equality ts r = ComparesValues ts r
ClassType class.Shift ts r = Shifts ts r
ClassType class.Select ts r = (n w : ℕ) × (ts ≡ array_type n r ∷ int_type w ∷ [])
ClassType (class.TakePart s) ts r = (t : TypeTree) × (ts ≡ t ∷ []) × PartHasType t s r
ClassType (class.PutPart s) ts r = (p : TypeTree) × (ts ≡ r ∷ p ∷ []) × PartHasType r s p
ClassType class.Array ts r = (t : TypeTree) × (0 < length ts) × (ts ≡ replicate (length ts) t) × (r ≡ array_type (length ts) t)
ClassType (class.Repeat n) ts r = (t : TypeTree) × (ts ≡ t ∷ []) × (0 < n) × (r ≡ array_type n t)
ClassType class.Tuple ts r = (0 < length ts) × (r ≡ tuple_type (row_of ts))

-- the row takes operands of these types and gives a value of type r
abbrev pub RowType : Op → List TypeTree → TypeTree → Type 0
RowType op ts r = ClassType (class_of op) ts r

-- the class takes integers of one width alone
abbrev pub ClassTakesIntegers : OpClass → Type 0
ClassTakesIntegers class.Unary = Unit {0}
ClassTakesIntegers class.Binary = Unit {0}
ClassTakesIntegers class.Relation = Unit {0}
ClassTakesIntegers class.Equality = ⊥
ClassTakesIntegers class.Shift = ⊥
ClassTakesIntegers class.Select = ⊥
ClassTakesIntegers (class.TakePart s) = ⊥
ClassTakesIntegers (class.PutPart s) = ⊥
ClassTakesIntegers class.Array = ⊥
ClassTakesIntegers (class.Repeat n) = ⊥
ClassTakesIntegers class.Tuple = ⊥

-- the rows that take integers of one width alone
abbrev pub TakesIntegers : Op → Type 0
TakesIntegers op = ClassTakesIntegers (class_of op)

-- the arguments fit the row: they are of data types that the row takes
pub record FitsOp (op : Op) (vs : List Datum) : Type 0 where
  pub types : List TypeTree
  pub gives : TypeTree
  pub data_types : AreData (row_of types)
  pub values_fit : FitsRow (data_row vs) (row_of types)
  pub row : RowType op types gives
