-- The types of the operands of each instruction.
use Rattle.std.specs.Prelude.{ℕ, List, [], ◌∷◌, Bool, true, false, ◌&&◌, Option, Some, None}
use Rattle.std.specs.List.{list_all}
use Rattle.std.specs.Option.{option_and_then, option_map, option_map_or}
use Rattle.lh_types.specs.Types.{TypeTree, time_type, void_type, signal_type, same_type}
use Rattle.lh_types.specs.Faults.{is_data}
pub use Rattle.lh_types.specs.TypeTests.{bit, is_integer, is_array_of, is_pointer, is_signal}
use Rattle.lh_types.specs.Parts.{step_part}
use Rattle.lh_types.specs.Classes.{class_of}
use Rattle.lh_types.specs.declared.op.Op.{Op}
use Rattle.lh_types.specs.declared.op.OpClass.{OpClass}
use Rattle.lh_types.specs.declared.op.OpClass.TheVariants as class
use Rattle.lh_types.specs.declared.part.Step.{Step}
use Rattle.lh_unit.specs.Contents.{OperandText, TriggerText, EdgeText, InstText, const_text, pure_text, var_text, ld_text, st_text, sig_text, prb_text, drv_text, reg_text, child_text, call_text, phi_text, br_text, branch_text, wait_text, halt_text, ret_text, UnitText}
use Rattle.lh_unit.specs.Typing.{value_type, is_value_type, pointed, carried, first_type}

-- the value of this name has this type
abbrev pub has_type : UnitText → TypeTree → List ℕ → Bool
has_type u t n = option_map_or (λ s. same_type s t) (value_type u n) false

-- the same, where an operand is written and a type was found
abbrev pub has_some_type : UnitText → Option TypeTree → List ℕ → Bool
has_some_type u None n = false
has_some_type u (Some t) n = has_type u t n

-- an operand that may be absent has this type
abbrev pub may_have_type : UnitText → TypeTree → Option (List ℕ) → Bool
may_have_type u t None = true
may_have_type u t (Some n) = has_type u t n

-- a type that is written before an operand is the operand's
abbrev pub agrees : UnitText → OperandText → Bool
agrees u o = option_map_or (λ t. has_type u t o.value) o.ty true

-- each operand agrees with what is written before it
abbrev pub all_agree : UnitText → List OperandText → Bool
all_agree u os = list_all (agrees u) os

-- each operand has this type, and agrees with what is written before it
abbrev pub all_have : UnitText → TypeTree → List OperandText → Bool
all_have u t os = list_all (λ (o : OperandText). has_type u t o.value && agrees u o) os

-- the type of the value of this name passes a test
abbrev pub type_satisfies : UnitText → (TypeTree → Bool) → List ℕ → Bool
type_satisfies u test n = option_map_or test (value_type u n) false

-- the type of the part that a step leads to; of a signal it is the signal of the part
abbrev pub part_type : Step → TypeTree → Option TypeTree
part_type s (signal_type t) = option_map (λ p. signal_type p.of) (step_part t s)
part_type s t = option_map (λ p. p.of) (step_part t s)

-- the operations by what they ask of their operands
pub data OperationRow : Type 0 where
  integers : OperationRow
  alike : OperationRow
  shifts : OperationRow
  selects : OperationRow
  takes_part : Step → OperationRow
  puts_part : Step → OperationRow
  elements : OperationRow
  fields : OperationRow

-- the row of the operations of a class
abbrev pub class_row : OpClass → OperationRow
class_row class.Unary = integers
class_row class.Binary = integers
class_row class.Relation = integers
class_row class.Equality = alike
class_row class.Shift = shifts
class_row class.Select = selects
class_row (class.TakePart s) = takes_part s
class_row (class.PutPart s) = puts_part s
class_row class.Array = elements
class_row (class.Repeat n) = elements
class_row class.Tuple = fields

-- the row of an operation
abbrev pub operation_row : Op → OperationRow
operation_row o = class_row (class_of o)

-- by the type t that is written first
abbrev pub row_fits : UnitText → OperationRow → TypeTree → List OperandText → Bool
row_fits u integers t args = is_integer t && all_have u t args
row_fits u alike t args = is_data t && all_have u t args
row_fits u shifts t (b ∷ h ∷ n ∷ []) = is_integer t && all_have u t (b ∷ h ∷ []) && type_satisfies u is_integer n.value && agrees u n
row_fits u selects t (x ∷ s ∷ []) = is_data t && type_satisfies u (is_array_of t) x.value && type_satisfies u is_integer s.value
row_fits u (takes_part s) t (x ∷ []) = option_map_or (same_type t) (option_and_then (part_type s) (value_type u x.value)) false
row_fits u (puts_part s) t (x ∷ v ∷ []) = is_data t && has_type u t x.value && has_some_type u (part_type s t) v.value
row_fits u elements t args = is_data t && all_have u t args
row_fits u fields t args = list_all (λ (o : OperandText). option_map_or is_data o.ty false && agrees u o) args
row_fits u _ t args = false

-- the operands fit the row, by the type that is written first
abbrev pub operation_fits : UnitText → OperationRow → Option TypeTree → List OperandText → Bool
operation_fits u row None args = false
operation_fits u row (Some t) args = row_fits u row t args

-- the type of what is driven
abbrev pub driven_type : OperandText → Option TypeTree
driven_type to = option_and_then carried to.ty

-- a trigger fits its register
abbrev pub trigger_fits : UnitText → OperandText → TriggerText → Bool
trigger_fits u to g =
    has_some_type u (driven_type to) g.value && has_type u bit g.trigger && may_have_type u bit g.gate && may_have_type u time_type g.after

-- the type of what is stored
abbrev pub stored_type : OperandText → Option TypeTree
stored_type to = option_and_then pointed to.ty

-- a written type that satisfies a test, and that the operand has
abbrev pub written_fits : UnitText → (TypeTree → Bool) → OperandText → Bool
written_fits u test o = option_map_or (λ t. test t && has_type u t o.value) o.ty false

-- `ret` gives the result of its function; without a value that is void
abbrev pub returns_fit : UnitText → Option TypeTree → Option OperandText → Bool
returns_fit u None o = true
returns_fit u (Some result) None = same_type result void_type
returns_fit u (Some result) (Some o) = written_fits u (λ t. is_value_type t && same_type t result) o

-- The types and the written numbers fit the row; the arguments of `inst` and `call` are compared with their unit elsewhere.
abbrev pub types_fit : UnitText → InstText → Bool
types_fit u (const_text d) = true
types_fit u (pure_text o args) = operation_fits u (operation_row o) (first_type args) args
types_fit u (var_text a) = written_fits u is_value_type a
types_fit u (ld_text p) = written_fits u is_pointer p
types_fit u (st_text to value) = written_fits u is_pointer to && has_some_type u (stored_type to) value
types_fit u (sig_text a) = written_fits u is_data a
types_fit u (prb_text s) = written_fits u is_signal s
types_fit u (drv_text to value after cond) =
    written_fits u is_signal to && has_some_type u (driven_type to) value && has_type u time_type after && may_have_type u bit cond
types_fit u (reg_text to triggers) = written_fits u is_signal to && list_all (trigger_fits u to) triggers
types_fit u (child_text v inputs outputs) = all_agree u inputs && all_agree u outputs
types_fit u (call_text f result args) = all_agree u args
types_fit u (phi_text ty edges) = is_value_type ty && list_all (λ (e : EdgeText). has_type u ty e.value) edges
types_fit u (br_text to) = true
types_fit u (branch_text cond first second) = has_type u bit cond
types_fit u (wait_text to after signals) = may_have_type u time_type after
types_fit u halt_text = true
types_fit u (ret_text o) = returns_fit u u.result o
