-- The operands of an instruction: they are defined, of the kinds that their places take, and their types fit the row.
use Rattle.std.specs.Prelude.{◌≡◌, ℕ, List, [], ◌∷◌, true, Option, Some, None}
use Rattle.lh_types.specs.Types.{TypeTree, int_type, time_type, void_type, array_type, signal_type, pointer_type}
use Rattle.lh_types.specs.Faults.{is_data}
use Rattle.lh_unit.specs.Contents.{OperandText, TriggerText, EdgeText, InstText, const_text, pure_text, var_text, ld_text, st_text, sig_text, prb_text, drv_text, reg_text, child_text, call_text, phi_text, br_text, branch_text, wait_text, halt_text, ret_text, UnitText, defines_value}
use Rattle.lh_unit.specs.Typing.{value_type, is_value_type, first_type}
use Rattle.lh_unit.specs.Kinds.{Kind, Use, uses, takes, value_kind}
use Rattle.lh_unit.specs.TypingRows.{bit, part_type, OperationRow, integers, alike, shifts, selects, takes_part, puts_part, elements, fields, operation_row, types_fit}
use Rattle.lh_unit.specs.Within.{Each}
use Rattle.lh_verify_laws.specs.Sites.{AtEachSite}

-- Each value that an instruction names is defined in its unit.
abbrev pub OperandsAreDefined : Type 0
OperandsAreDefined = AtEachSite (λ items s. Each (λ (x : Use). defines_value x.value s.unit ≡ true) (uses s.place.line.inst))

-- Each is of a kind that its place takes.
abbrev pub OperandsAreTaken : Type 0
OperandsAreTaken = AtEachSite (λ items s. Each (λ (x : Use). (k : Kind) × (value_kind s.unit x.value ≡ Some k) × (takes x.need k ≡ true)) (uses s.place.line.inst))

-- The types fit the row.
abbrev pub TypesFit : Type 0
TypesFit = AtEachSite (λ items s. types_fit s.unit s.place.line.inst ≡ true)

-- the value of this name is of this type
abbrev pub IsOf : UnitText → TypeTree → List ℕ → Type 0
IsOf u t n = value_type u n ≡ Some t

-- it is, where an operand stands
abbrev pub MayBeOf : UnitText → TypeTree → Option (List ℕ) → Type 0
MayBeOf u t None = Unit {0}
MayBeOf u t (Some n) = IsOf u t n

-- an operand is of the type that is written before it
abbrev pub IsAsWritten : UnitText → OperandText → Type 0
IsAsWritten u o = (t : TypeTree) → o.ty ≡ Some t → IsOf u t o.value

-- this type is written before the operand, and it is of it
abbrev pub IsWritten : UnitText → TypeTree → OperandText → Type 0
IsWritten u t o = (o.ty ≡ Some t) × IsOf u t o.value

-- the operand is of this type, and of the type that is written before it
abbrev pub IsLike : UnitText → TypeTree → OperandText → Type 0
IsLike u t o = IsOf u t o.value × IsAsWritten u o

-- the operands of an operation, by the type t that is written first
abbrev pub OperationIs : UnitText → OperationRow → TypeTree → List OperandText → Type 0
OperationIs u integers t args = ((n : ℕ) × (t ≡ int_type n)) × Each (IsLike u t) args
OperationIs u alike t args = (is_data t ≡ true) × Each (IsLike u t) args
OperationIs u shifts t (b ∷ h ∷ n ∷ []) = ((k : ℕ) × (t ≡ int_type k)) × IsLike u t b × IsLike u t h × ((k : ℕ) × IsOf u (int_type k) n.value) × IsAsWritten u n
OperationIs u selects t (x ∷ s ∷ []) = (is_data t ≡ true) × ((n : ℕ) × IsOf u (array_type n t) x.value) × ((k : ℕ) × IsOf u (int_type k) s.value)
OperationIs u (takes_part s) t (x ∷ []) = (whole : TypeTree) × IsOf u whole x.value × (part_type s whole ≡ Some t)
OperationIs u (puts_part s) t (x ∷ v ∷ []) = (is_data t ≡ true) × IsOf u t x.value × ((p : TypeTree) × (part_type s t ≡ Some p) × IsOf u p v.value)
OperationIs u elements t args = (is_data t ≡ true) × Each (IsLike u t) args
OperationIs u fields t args = Each (λ (o : OperandText). (f : TypeTree) × (is_data f ≡ true) × IsWritten u f o) args
OperationIs u _ t args = ⊥

-- a trigger of a register that carries t
pub record TriggerIs (u : UnitText) (t : TypeTree) (g : TriggerText) : Type 0 where
  pub value : IsOf u t g.value
  pub trigger : IsOf u bit g.trigger
  pub gate : MayBeOf u bit g.gate
  pub after : MayBeOf u time_type g.after

-- `ret`, by the result of its function
abbrev pub ReturnIs : UnitText → Option TypeTree → Option OperandText → Type 0
ReturnIs u None o = Unit {0}
ReturnIs u (Some t) None = t ≡ void_type
ReturnIs u (Some t) (Some o) = (is_value_type t ≡ true) × IsWritten u t o

-- the types of the operands, row by row
abbrev pub RowIs : UnitText → InstText → Type 0
RowIs u (const_text d) = Unit {0}
RowIs u (pure_text o args) = (t : TypeTree) × (first_type args ≡ Some t) × OperationIs u (operation_row o) t args
RowIs u (var_text a) = (t : TypeTree) × (is_value_type t ≡ true) × IsWritten u t a
RowIs u (ld_text p) = (t : TypeTree) × IsWritten u (pointer_type t) p
RowIs u (st_text to value) = (t : TypeTree) × IsWritten u (pointer_type t) to × IsOf u t value
RowIs u (sig_text a) = (t : TypeTree) × (is_data t ≡ true) × IsWritten u t a
RowIs u (prb_text s) = (t : TypeTree) × IsWritten u (signal_type t) s
RowIs u (drv_text to value after cond) = (t : TypeTree) × IsWritten u (signal_type t) to × IsOf u t value × IsOf u time_type after × MayBeOf u bit cond
RowIs u (reg_text to triggers) = (t : TypeTree) × IsWritten u (signal_type t) to × Each (TriggerIs u t) triggers
RowIs u (child_text v inputs outputs) = Each (IsAsWritten u) inputs × Each (IsAsWritten u) outputs
RowIs u (call_text f result args) = Each (IsAsWritten u) args
RowIs u (phi_text ty edges) = (is_value_type ty ≡ true) × Each (λ (e : EdgeText). IsOf u ty e.value) edges
RowIs u (br_text to) = Unit {0}
RowIs u (branch_text cond first second) = IsOf u bit cond
RowIs u (wait_text to after signals) = MayBeOf u time_type after
RowIs u halt_text = Unit {0}
RowIs u (ret_text o) = ReturnIs u u.result o

abbrev pub RowsAre : Type 0
RowsAre = AtEachSite (λ items s. RowIs s.unit s.place.line.inst)
