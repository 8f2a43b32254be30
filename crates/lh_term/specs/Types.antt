-- The type of a term, and which terms have one.
use Rattle.std.specs.Prelude.{◌≡◌, ℕ, Bool, true, false, if◌then◌else◌, List, [], ◌∷◌, length, ◌⊎◌}
use Rattle.std.proofs.Common.{zero, suc}
use Rattle.lh_types.specs.Types.{TypeTree, TypeRow, int_type, time_type, void_type, array_type, tuple_type, no_types, more_types, row_of, IsData, AreData}
use Rattle.lh_types.specs.Values.{Datum, DatumRow, int_value, time_value, array_value, tuple_value, no_values, more_values}
use Rattle.lh_types.specs.Fits.{FitsType, part_count}
use Rattle.lh_types.specs.ApplyTypes.{RowType}
use Rattle.lh_types.specs.Classes.{class_of}
use Rattle.lh_types.specs.declared.op.Op.{Op}
use Rattle.lh_types.specs.declared.op.OpClass.{OpClass}
use Rattle.lh_types.specs.declared.op.OpClass.TheVariants as class
use Rattle.lh_types.specs.declared.part.Step.{Step}
use Rattle.lh_types.specs.declared.part.Step.TheVariants.{Field, Slice}
use Rattle.lh_term.specs.Tree.{Tree, TreeRow, constant, past_of, now_of, operation, choice_of, no_trees, more_trees}

abbrev mutual
  -- the type of a value, by its shape
  pub value_type : Datum → TypeTree
  value_type (int_value n a) = int_type n
  value_type (time_value d) = time_type
  value_type (array_value vs) = array_type (part_count vs) (first_type vs)
  value_type (tuple_value vs) = tuple_type (value_types vs)

  -- the type of the first
  pub first_type : DatumRow → TypeTree
  first_type no_values = void_type
  first_type (more_values v vs) = value_type v

  -- the types in order
  pub value_types : DatumRow → TypeRow
  value_types no_values = no_types
  value_types (more_values v vs) = more_types (value_type v) (value_types vs)

-- the first of some types
abbrev pub first_of : List TypeTree → TypeTree
first_of [] = void_type
first_of (t ∷ ts) = t

-- the type of an element
abbrev pub element_of : TypeTree → TypeTree
element_of (array_type n t) = t
element_of _ = void_type

-- the type of field k
abbrev pub type_in_row : TypeRow → ℕ → TypeTree
type_in_row no_types k = void_type
type_in_row (more_types t ts) zero = t
type_in_row (more_types t ts) (suc k) = type_in_row ts k

-- the type of element or field k
abbrev pub field_type : TypeTree → ℕ → TypeTree
field_type (array_type n t) k = t
field_type (tuple_type ts) k = type_in_row ts k
field_type _ k = void_type

-- the type of n bits or elements
abbrev pub slice_type : TypeTree → ℕ → TypeTree
slice_type (int_type m) n = int_type n
slice_type (array_type m t) n = array_type n t
slice_type _ n = void_type

-- whether a row of the class tells one bit
abbrev pub class_gives_bit : OpClass → Bool
class_gives_bit class.Unary = false
class_gives_bit class.Binary = false
class_gives_bit class.Relation = true
class_gives_bit class.Equality = true
class_gives_bit class.Shift = false
class_gives_bit class.Select = false
class_gives_bit (class.TakePart s) = false
class_gives_bit (class.PutPart s) = false
class_gives_bit class.Array = false
class_gives_bit (class.Repeat k) = false
class_gives_bit class.Tuple = false

-- whether a row tells one bit
abbrev pub gives_bit : Op → Bool
gives_bit op = class_gives_bit (class_of op)

-- the type of the part that a step leads to
abbrev pub step_type : Step → TypeTree → TypeTree
step_type (Field k) t = field_type t k
step_type (Slice o n) t = slice_type t n

-- the type of what a row of the class gives on operands of these types, by the first, where it tells more than one bit
abbrev pub class_by_first : OpClass → TypeTree → List TypeTree → TypeTree
class_by_first class.Unary t ts = t
class_by_first class.Binary t ts = t
class_by_first class.Relation t ts = t
class_by_first class.Equality t ts = t
class_by_first class.Shift t ts = t
class_by_first class.Select t ts = element_of t
class_by_first (class.TakePart s) t ts = step_type s t
class_by_first (class.PutPart s) t ts = t
class_by_first class.Array t ts = array_type (length ts) t
class_by_first (class.Repeat k) t ts = array_type k t
class_by_first class.Tuple t ts = tuple_type (row_of ts)

-- the type of what any other row gives on operands of these types, by the first
abbrev pub type_by_first : Op → TypeTree → List TypeTree → TypeTree
type_by_first op t ts = class_by_first (class_of op) t ts

-- the type of what a row of the class gives on operands of these types
abbrev pub class_result : OpClass → List TypeTree → TypeTree
class_result c ts = if class_gives_bit c then int_type 1 else class_by_first c (first_of ts) ts

-- the type of what a row gives on operands of these types
abbrev pub row_result : Op → List TypeTree → TypeTree
row_result op ts = class_result (class_of op) ts

abbrev mutual
  -- the type of a term
  pub type_of : Tree → TypeTree
  type_of (constant v) = value_type v
  type_of (past_of p) = p.ty
  type_of (now_of p) = p.ty
  type_of (operation op ts) = row_result op (types_of ts)
  type_of (choice_of c f t) = type_of f

  -- the types of operands in order
  pub types_of : TreeRow → List TypeTree
  types_of no_trees = []
  types_of (more_trees t ts) = type_of t ∷ types_of ts

-- a value of this type can be a term: a data type or time
abbrev pub IsValueType : TypeTree → Type 0
IsValueType t = IsData t ⊎ (t ≡ time_type)

-- the value is of a data type, or a time
pub record FitsTerm (v : Datum) : Type 0 where
  pub fits : FitsType v (value_type v)
  pub is_value : IsValueType (value_type v)

-- the row takes operands of these types, and what it gives is of a data type
pub record TakesTypes (op : Op) (ts : List TypeTree) : Type 0 where
  pub gives : TypeTree
  pub data_types : AreData (row_of ts)
  pub row : RowType op ts gives
  pub is_data : IsData gives

-- a choice by one bit between two terms of one type
abbrev pub Chooses : TypeTree → TypeTree → TypeTree → Type 0
Chooses c f t = (c ≡ int_type 1) × (f ≡ t)

abbrev mutual
  -- each operand fits its place
  pub IsTyped : Tree → Type 0
  IsTyped (constant v) = FitsTerm v
  IsTyped (past_of p) = IsData p.ty
  IsTyped (now_of p) = IsData p.ty
  IsTyped (operation op ts) = AreTyped ts × TakesTypes op (types_of ts)
  IsTyped (choice_of c f t) = IsTyped c × IsTyped f × IsTyped t × Chooses (type_of c) (type_of f) (type_of t)

  pub AreTyped : TreeRow → Type 0
  AreTyped no_trees = Unit {0}
  AreTyped (more_trees t ts) = IsTyped t × AreTyped ts
