-- The types of what instructions give.
use Rattle.std.specs.Prelude.{◌≡◌, ℕ, List, length, true, false, Some, None}
use Rattle.lh_types.specs.Types.{TypeTree, TypeRow, array_type, tuple_type, signal_type, pointer_type}
use Rattle.lh_types.specs.Faults.{array_fault, tuple_fault}
use Rattle.lh_types.specs.Classes.{class_of}
use Rattle.lh_types.specs.declared.op.Op.{Op}
use Rattle.lh_types.specs.declared.op.OpClass.{OpClass}
use Rattle.lh_types.specs.declared.op.OpClass.TheVariants as class
use Rattle.lh_unit.specs.Contents.{OperandText, InstText, pure_text, var_text, ld_text, sig_text, prb_text, phi_text, LineText, BlockText, UnitText, args_define, is_result_name}
use Rattle.lh_unit.specs.Typing.{first_type, operand_types, operation_type, result_type, value_type}
use Rattle.lh_unit.specs.TypingRows.{bit}
use Rattle.lh_unit.specs.Places.{InstPlaceText}
use Rattle.lh_unit.specs.Within.{Each}
use Rattle.lh_verify_laws.specs.Sites.{AtEachSite}

-- an operation gives a value of the type that is written first
abbrev pub GivesFirst : Op → List OperandText → Type 0
GivesFirst o args = (t : TypeTree) × (first_type args ≡ Some t) × (operation_type o args ≡ Some t)

-- an array of n elements of that type, where the language has it
abbrev pub GivesArray : ℕ → Op → List OperandText → Type 0
GivesArray n o args = (t : TypeTree) × (first_type args ≡ Some t) × (array_fault n t ≡ None → operation_type o args ≡ Some (array_type n t))

-- a comparison gives a bit, and a struct has fields of the types that are written, where the language has it
abbrev pub ClassGives : OpClass → Op → List OperandText → Type 0
ClassGives class.Unary o args = GivesFirst o args
ClassGives class.Binary o args = GivesFirst o args
ClassGives class.Relation o args = operation_type o args ≡ Some bit
ClassGives class.Equality o args = operation_type o args ≡ Some bit
ClassGives class.Shift o args = GivesFirst o args
ClassGives class.Select o args = GivesFirst o args
ClassGives (class.TakePart s) o args = GivesFirst o args
ClassGives (class.PutPart s) o args = GivesFirst o args
ClassGives class.Array o args = GivesArray (length args) o args
ClassGives (class.Repeat n) o args = GivesArray n o args
ClassGives class.Tuple o args = (r : TypeRow) × (operand_types args ≡ Some r) × (tuple_fault r ≡ None → operation_type o args ≡ Some (tuple_type r))

-- the type of what an operation gives, by its class
abbrev pub OperationGives : Op → List OperandText → Type 0
OperationGives o args = ClassGives (class_of o) o args

-- the type of what an instruction gives, by row
abbrev pub GivesTypeOfRow : InstText → Type 0
GivesTypeOfRow (pure_text o args) = OperationGives o args
GivesTypeOfRow (var_text a) = (t : TypeTree) × (a.ty ≡ Some t) × (result_type (var_text a) ≡ Some (pointer_type t))
GivesTypeOfRow (ld_text p) = (t : TypeTree) × (p.ty ≡ Some (pointer_type t)) × (result_type (ld_text p) ≡ Some t)
GivesTypeOfRow (sig_text a) = (t : TypeTree) × (a.ty ≡ Some t) × (result_type (sig_text a) ≡ Some (signal_type t))
GivesTypeOfRow (prb_text s) = (t : TypeTree) × (s.ty ≡ Some (signal_type t)) × (result_type (prb_text s) ≡ Some t)
GivesTypeOfRow (phi_text ty edges) = result_type (phi_text ty edges) ≡ Some ty
GivesTypeOfRow _ = Unit {0}

-- Each instruction gives a value of a type, which its own line tells.
abbrev pub ResultsHaveTypes : Type 0
ResultsHaveTypes = AtEachSite (λ items s. GivesTypeOfRow s.place.line.inst)

-- no argument of the unit has this name, and no other instruction gives it
pub record IsOnly (u : UnitText) (p : InstPlaceText) (n : List ℕ) : Type 0 where
  pub named : is_result_name n p.line.result ≡ true
  pub no_argument : args_define n u.args ≡ false
  pub no_other : Each (λ (b : BlockText). Each (λ (l : LineText). is_result_name n l.result ≡ true → l.inst ≡ p.line.inst) b.lines) u.blocks

-- The type of a value is that of what its instruction gives, where its name is defined once.
abbrev pub ValuesHaveTypes : Type 0
ValuesHaveTypes = AtEachSite (λ items s. (n : List ℕ) → IsOnly s.unit s.place n → value_type s.unit n ≡ result_type s.place.line.inst)
