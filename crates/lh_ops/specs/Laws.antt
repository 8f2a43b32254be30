-- Laws of the operations, for the crates that compute with them.
use Rattle.std.specs.Prelude.{◌≡◌, ℕ, ◌-◌, ◌^◌, ◌<◌, Bool, true, not, ◌&&◌, ◌||◌, if◌then◌else◌, List, [], ◌∷◌}
use Rattle.lh_types.specs.Types.{TypeTree, row_of, AreData}
use Rattle.lh_types.specs.Values.{Datum, int_value, array_value, data_row}
use Rattle.lh_types.specs.Fits.{FitsType, FitsRow}
use Rattle.lh_types.specs.ApplyInt.{IsIntegerRow, integer_row, row_width}
use Rattle.lh_types.specs.Apply.{apply, bit_value}
use Rattle.lh_types.specs.ApplyTypes.{RowType}
use Rattle.lh_types.specs.Classes.{class_of}
use Rattle.lh_types.specs.declared.op.Op.{Op}
use Rattle.lh_types.specs.declared.op.Op.TheVariants.{Not, And, Or, Xor, Eq, Neq, Mux}
use Rattle.lh_types.specs.declared.op.OpClass.{OpClass}
use Rattle.lh_types.specs.declared.op.OpClass.TheVariants as class

-- on operands of the types that a row takes, the value is of the type that the row gives
abbrev pub ResultsFit : Type 0
ResultsFit = (op : Op) (vs : List Datum) (ts : List TypeTree) (r : TypeTree) → AreData (row_of ts) → FitsRow (data_row vs) (row_of ts) → RowType op ts r → FitsType (apply op vs) r

-- a row gives one type for its operands' types
abbrev pub OneResultType : Type 0
OneResultType = (op : Op) (ts : List TypeTree) (r s : TypeTree) → RowType op ts r → RowType op ts s → r ≡ s

-- integers of one bit: the operations are those on truth values
pub record BitRows (x y : Bool) : Type 0 where
  pub not_bit : apply Not (bit_value x ∷ []) ≡ bit_value (not x)
  pub and_bits : apply And (bit_value x ∷ bit_value y ∷ []) ≡ bit_value (x && y)
  pub or_bits : apply Or (bit_value x ∷ bit_value y ∷ []) ≡ bit_value (x || y)
  pub xor_bits : apply Xor (bit_value x ∷ bit_value y ∷ []) ≡ bit_value (if x then not y else y)
  pub eq_bits : apply Eq (bit_value x ∷ bit_value y ∷ []) ≡ bit_value (if x then y else not y)
  pub neq_bits : apply Neq (bit_value x ∷ bit_value y ∷ []) ≡ bit_value (if x then not y else y)

-- every integer of one bit is a truth value, and the operations on them are the Boolean ones
pub record BitsAreBoolean : Type 0 where
  pub each_bit : (a : ℕ) → a < 2 → (b : Bool) × (int_value 1 a ≡ bit_value b)
  pub rows : (x y : Bool) → BitRows x y

-- the integer of n bits that are all set
abbrev pub ones : ℕ → Datum
ones n = int_value n (2 ^ n - 1)

-- and, or and not on integers q and a of n bits
pub record WordRows (n q a : ℕ) : Type 0 where
  pub and_comm : apply And (int_value n q ∷ int_value n a ∷ []) ≡ apply And (int_value n a ∷ int_value n q ∷ [])
  pub and_zero : apply And (int_value n a ∷ int_value n 0 ∷ []) ≡ int_value n 0
  pub and_ones : apply And (int_value n a ∷ ones n ∷ []) ≡ int_value n a
  pub and_self : apply And (int_value n a ∷ int_value n a ∷ []) ≡ int_value n a
  pub and_not : apply And (int_value n a ∷ apply Not (int_value n a ∷ []) ∷ []) ≡ int_value n 0
  pub or_comm : apply Or (int_value n q ∷ int_value n a ∷ []) ≡ apply Or (int_value n a ∷ int_value n q ∷ [])
  pub or_zero : apply Or (int_value n a ∷ int_value n 0 ∷ []) ≡ int_value n a
  pub or_ones : apply Or (int_value n a ∷ ones n ∷ []) ≡ ones n
  pub or_self : apply Or (int_value n a ∷ int_value n a ∷ []) ≡ int_value n a
  pub or_not : apply Or (int_value n a ∷ apply Not (int_value n a ∷ []) ∷ []) ≡ ones n
  pub or_of_both : apply Or (apply And (int_value n q ∷ int_value n a ∷ []) ∷ apply And (int_value n q ∷ apply Not (int_value n a ∷ []) ∷ []) ∷ []) ≡ int_value n q
  pub not_not : apply Not (apply Not (int_value n a ∷ []) ∷ []) ≡ int_value n a

abbrev pub WordsAreBoolean : Type 0
WordsAreBoolean = (n q a : ℕ) → q < 2 ^ n → a < 2 ^ n → WordRows n q a

-- eq and neq tell whether two values are one
pub record EqualityTells : Type 0 where
  pub same : (v : Datum) → apply Eq (v ∷ v ∷ []) ≡ bit_value true
  pub same_not : (v : Datum) → apply Neq (v ∷ v ∷ []) ≡ int_value 1 0
  pub told : (v w : Datum) → apply Eq (v ∷ w ∷ []) ≡ bit_value true → v ≡ w

-- mux of two values by one bit is a choice
abbrev pub MuxChooses : Type 0
MuxChooses = (c : Bool) (zero one : Datum) → apply Mux (array_value (data_row (zero ∷ one ∷ [])) ∷ bit_value c ∷ []) ≡ (if c then one else zero)

-- of the two values those that an operation of the class on integers of one width takes
abbrev pub class_operands : OpClass → Datum → Datum → List Datum
class_operands class.Unary v w = v ∷ []
class_operands class.Binary v w = v ∷ w ∷ []
class_operands class.Relation v w = v ∷ w ∷ []
class_operands class.Equality v w = v ∷ w ∷ []
class_operands class.Shift v w = v ∷ w ∷ []
class_operands class.Select v w = v ∷ w ∷ []
class_operands (class.TakePart s) v w = v ∷ w ∷ []
class_operands (class.PutPart s) v w = v ∷ w ∷ []
class_operands class.Array v w = v ∷ w ∷ []
class_operands (class.Repeat n) v w = v ∷ w ∷ []
class_operands class.Tuple v w = v ∷ w ∷ []

-- the operands of a row from not to uge: not and neg take the first alone
abbrev pub integer_operands : Op → Datum → Datum → List Datum
integer_operands op v w = class_operands (class_of op) v w

-- on integers of one width, eq and neq among them, every such row is the one over whole numbers
abbrev pub IntegerRows : Type 0
IntegerRows = (op : Op) (n a b : ℕ) → IsIntegerRow op → apply op (integer_operands op (int_value n a) (int_value n b)) ≡ int_value (row_width op n) (integer_row op n a b)
