-- The type of a value, read from its own line.
use Rattle.std.specs.Prelude.{ℕ, List, [], ◌∷◌, length, Option, Some, None, if◌then◌else◌}
use Rattle.std.specs.Option.{option_and_then, option_map}
use Rattle.lh_types.specs.Types.{TypeTree, TypeRow, int_type, time_type, array_type, tuple_type, signal_type, pointer_type, no_types, more_types}
use Rattle.lh_types.specs.Values.{Datum, int_value, time_value}
use Rattle.lh_types.specs.Faults.{is_data, int_fault, array_fault, tuple_fault}
pub use Rattle.lh_types.specs.TypeTests.{is_value_type, pointed, carried}
use Rattle.lh_types.specs.declared.ty.TyFault.{TyFault}
use Rattle.lh_types.specs.Classes.{class_of}
use Rattle.lh_types.specs.declared.op.Op.{Op}
use Rattle.lh_types.specs.declared.op.OpClass.{OpClass}
use Rattle.lh_types.specs.declared.op.OpClass.TheVariants as class
use Rattle.lh_unit.specs.Contents.{OperandText, InstText, const_text, pure_text, var_text, ld_text, sig_text, prb_text, call_text, phi_text, LineText, BlockText, ArgText, UnitText, is_result_name}
use Rattle.lh_unit_names.specs.Names.{same_name}

-- the type of a pointer to a value of this type
abbrev pub pointer_to : TypeTree → Option TypeTree
pointer_to t = if is_value_type t then Some (pointer_type t) else None

-- the type of a signal that carries this one
abbrev pub signal_of : TypeTree → Option TypeTree
signal_of t = if is_data t then Some (signal_type t) else None

-- a type, where nothing is wrong with it
abbrev pub if_made : Option TyFault → TypeTree → Option TypeTree
if_made None t = Some t
if_made (Some e) t = None

-- an array of this many elements, and a struct of these fields, where the language has it
abbrev pub array_made : ℕ → TypeTree → Option TypeTree
array_made n t = if_made (array_fault n t) (array_type n t)

abbrev pub tuple_made : TypeRow → Option TypeTree
tuple_made r = if_made (tuple_fault r) (tuple_type r)

-- a constant is an integer or a time
abbrev pub constant_type : Datum → Option TypeTree
constant_type (int_value width bits) = if_made (int_fault width) (int_type width)
constant_type (time_value d) = Some time_type
constant_type _ = None

-- the type that is written before the first operand
abbrev pub first_type : List OperandText → Option TypeTree
first_type [] = None
first_type (o ∷ more) = o.ty

-- one more type in front, where each is there
abbrev pub with_type : Option TypeTree → Option TypeRow → Option TypeRow
with_type (Some t) (Some r) = Some (more_types t r)
with_type _ _ = None

-- the types that are written before the operands, where each has one
abbrev pub operand_types : List OperandText → Option TypeRow
operand_types [] = Some no_types
operand_types (o ∷ more) = with_type o.ty (operand_types more)

-- an operation gives a value of the type that is written first; a comparison gives a bit
abbrev pub class_type : OpClass → List OperandText → Option TypeTree
class_type class.Unary args = first_type args
class_type class.Binary args = first_type args
class_type class.Relation args = Some (int_type 1)
class_type class.Equality args = Some (int_type 1)
class_type class.Shift args = first_type args
class_type class.Select args = first_type args
class_type (class.TakePart s) args = first_type args
class_type (class.PutPart s) args = first_type args
class_type class.Array args = option_and_then (array_made (length args)) (first_type args)
class_type (class.Repeat n) args = option_and_then (array_made n) (first_type args)
class_type class.Tuple args = option_and_then tuple_made (operand_types args)

-- the type of what an operation gives
abbrev pub operation_type : Op → List OperandText → Option TypeTree
operation_type o args = class_type (class_of o) args

-- The type of what an instruction gives, where it gives something that has a type: by what its own line writes, also where its row takes no such type.
abbrev pub result_type : InstText → Option TypeTree
result_type (const_text d) = constant_type d
result_type (pure_text o args) = operation_type o args
result_type (var_text a) = option_and_then pointer_to a.ty
result_type (ld_text p) = option_and_then pointed p.ty
result_type (sig_text a) = option_and_then signal_of a.ty
result_type (prb_text s) = option_and_then carried s.ty
result_type (call_text f result args) = Some result
result_type (phi_text ty edges) = Some ty
result_type _ = None

-- the instruction of these lines that gives the value of this name
abbrev pub line_giving : List ℕ → List LineText → Option InstText
line_giving n [] = None
line_giving n (l ∷ more) = if is_result_name n l.result then Some l.inst else line_giving n more

-- the first, or else the second
abbrev pub or_else : {A : Type 0} → Option A → Option A → Option A
or_else (Some x) o = Some x
or_else None o = o

-- the same among the blocks of a unit
abbrev pub inst_giving : List ℕ → List BlockText → Option InstText
inst_giving n [] = None
inst_giving n (b ∷ more) = or_else (line_giving n b.lines) (inst_giving n more)

-- the argument of this name
abbrev pub arg_named : List ℕ → List ArgText → Option ArgText
arg_named n [] = None
arg_named n (a ∷ more) = if same_name a.name n then Some a else arg_named n more

-- the type of the value of this name in a unit
abbrev pub value_type : UnitText → List ℕ → Option TypeTree
value_type u n = or_else (option_map (λ a. a.ty) (arg_named n u.args)) (option_and_then result_type (inst_giving n u.blocks))
