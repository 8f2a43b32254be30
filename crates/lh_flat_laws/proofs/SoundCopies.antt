-- A line that is sound in its unit is sound in a flat text in which each value's new name has the value's type.
use Rattle.std.proofs.Common.{◌≡◌, ℕ, List, [], ◌∷◌, true, map, length, Option, Some, None, option_map, option_and_then, refl, ap, ◌∙◌, suc}
use Rattle.lh_types.specs.Types.{TypeTree}
use Rattle.lh_types.specs.Faults.{is_data}
use Rattle.lh_types.specs.Classes.{class_of}
use Rattle.lh_types.specs.declared.op.Op.{Op}
use Rattle.lh_types.specs.declared.op.OpClass.{OpClass}
use Rattle.lh_types.specs.declared.op.OpClass.TheVariants as class
use Rattle.lh_unit.specs.Contents.{OperandText, EdgeText, InstText, const_text, pure_text, var_text, ld_text, st_text, sig_text, prb_text, drv_text, reg_text, child_text, call_text, phi_text, br_text, branch_text, wait_text, halt_text, ret_text, UnitText}
use Rattle.lh_unit.specs.Typing.{value_type, first_type, operand_types, with_type, class_type, result_type, array_made, tuple_made}
use Rattle.lh_unit.specs.TypingRows.{OperationRow, integers, alike, shifts, selects, takes_part, puts_part, elements, fields, operation_row}
use Rattle.lh_unit.specs.Within.{Each}
use Rattle.lh_verify_laws.specs.Operands.{IsOf, MayBeOf, IsAsWritten, IsWritten, IsLike, OperationIs, RowIs}
use Rattle.lh_verify_laws.specs.Parts.{PartIs, HasPart}
use Rattle.lh_eval.specs.Sound.{ClassHasOperands, HasOperands, IsWrittenRight}
use Rattle.lh_flat.specs.Copies.{Copy, copied_operand, copied_edge, copied}

-- it may stand in a function or a process
abbrev pub IsCode : InstText → Type 0
IsCode (sig_text a) = ⊥
IsCode (reg_text to triggers) = ⊥
IsCode (child_text v inputs outputs) = ⊥
IsCode _ = Unit {0}

pub first-type : (c : Copy) (args : List OperandText) → first_type (map (copied_operand c) args) ≡ first_type args
first-type c [] = refl
first-type c (o ∷ more) = refl

module _ (u x : UnitText) (c : Copy) (typed : (n : List ℕ) (t : TypeTree) → value_type u n ≡ Some t → value_type x (c.value n) ≡ Some t) where
  as-written : (o : OperandText) → IsAsWritten u o → IsAsWritten x (copied_operand c o)
  as-written o h t e = typed o.value t (h t e)

  written : (t : TypeTree) (o : OperandText) → IsWritten u t o → IsWritten x t (copied_operand c o)
  written t o h = (h.0, typed o.value t h.1)

  like : (t : TypeTree) (o : OperandText) → IsLike u t o → IsLike x t (copied_operand c o)
  like t o h = (typed o.value t h.0, as-written o h.1)

  maybe : (t : TypeTree) (n : Option (List ℕ)) → MayBeOf u t n → MayBeOf x t (option_map c.value n)
  maybe t None h = tt
  maybe t (Some n) h = typed n t h

  all-written : (args : List OperandText) → Each (IsAsWritten u) args → Each (IsAsWritten x) (map (copied_operand c) args)
  all-written [] h = tt
  all-written (o ∷ more) h = (as-written o h.0, all-written more h.1)

  all-like : (t : TypeTree) (args : List OperandText) → Each (IsLike u t) args → Each (IsLike x t) (map (copied_operand c) args)
  all-like t [] h = tt
  all-like t (o ∷ more) h = (like t o h.0, all-like t more h.1)

  all-fields : (args : List OperandText) → Each (λ (o : OperandText). (f : TypeTree) × (is_data f ≡ true) × IsWritten u f o) args
      → Each (λ (o : OperandText). (f : TypeTree) × (is_data f ≡ true) × IsWritten x f o) (map (copied_operand c) args)
  all-fields [] h = tt
  all-fields (o ∷ more) h = ((h.0.0, h.0.1, written h.0.0 o h.0.2), all-fields more h.1)

  all-edges : (functions : List UnitText) (t : TypeTree) (es : List EdgeText) → Each (λ (e : EdgeText). IsOf u t e.value) es
      → Each (λ (e : EdgeText). IsOf x t e.value) (map (copied_edge functions c) es)
  all-edges functions t [] h = tt
  all-edges functions t (e ∷ more) h = (typed e.value t h.0, all-edges functions t more h.1)

  operation-is : (r : OperationRow) (t : TypeTree) (args : List OperandText) → OperationIs u r t args → OperationIs x r t (map (copied_operand c) args)
  operation-is integers t args h = (h.0, all-like t args h.1)
  operation-is alike t args h = (h.0, all-like t args h.1)
  operation-is shifts t (b ∷ s ∷ n ∷ []) h = (h.0, like t b h.1, like t s h.2, (h.3.0, typed n.value _ h.3.1), as-written n h.4)
  operation-is shifts t [] h = elim h [ ]
  operation-is shifts t (b ∷ []) h = elim h [ ]
  operation-is shifts t (b ∷ s ∷ []) h = elim h [ ]
  operation-is shifts t (b ∷ s ∷ n ∷ m ∷ more) h = elim h [ ]
  operation-is selects t (a ∷ s ∷ []) h = (h.0, (h.1.0, typed a.value _ h.1.1), (h.2.0, typed s.value _ h.2.1))
  operation-is selects t [] h = elim h [ ]
  operation-is selects t (a ∷ []) h = elim h [ ]
  operation-is selects t (a ∷ s ∷ n ∷ more) h = elim h [ ]
  operation-is (takes_part s) t (a ∷ []) h = (h.0, typed a.value h.0 h.1, h.2)
  operation-is (takes_part s) t [] h = elim h [ ]
  operation-is (takes_part s) t (a ∷ v ∷ more) h = elim h [ ]
  operation-is (puts_part s) t (a ∷ v ∷ []) h = (h.0, typed a.value t h.1, (h.2.0, h.2.1, typed v.value h.2.0 h.2.2))
  operation-is (puts_part s) t [] h = elim h [ ]
  operation-is (puts_part s) t (a ∷ []) h = elim h [ ]
  operation-is (puts_part s) t (a ∷ v ∷ n ∷ more) h = elim h [ ]
  operation-is elements t args h = (h.0, all-like t args h.1)
  operation-is fields t args h = all-fields args h

  -- its row
  pub row-copied : (functions : List UnitText) (i : InstText) → IsCode i → RowIs u i → RowIs x (copied functions c i)
  row-copied functions (sig_text a) k h = elim k [ ]
  row-copied functions (reg_text to triggers) k h = elim k [ ]
  row-copied functions (child_text v inputs outputs) k h = elim k [ ]
  row-copied functions (const_text d) k h = tt
  row-copied functions (pure_text o args) k h = (h.0, first-type c args ∙ h.1, operation-is (operation_row o) h.0 args h.2)
  row-copied functions (var_text a) k h = (h.0, h.1, written h.0 a h.2)
  row-copied functions (ld_text p) k h = (h.0, written _ p h.1)
  row-copied functions (st_text to value) k h = (h.0, written _ to h.1, typed value h.0 h.2)
  row-copied functions (prb_text s) k h = (h.0, written _ s h.1)
  row-copied functions (drv_text to value after cond) k h = (h.0, written _ to h.1, typed value h.0 h.2, typed after _ h.3, maybe _ cond h.4)
  row-copied functions (call_text f result args) k h = all-written args h
  row-copied functions (phi_text ty edges) k h = (h.0, all-edges functions ty edges h.1)
  row-copied functions (br_text to) k h = tt
  row-copied functions (branch_text cond first second) k h = typed cond _ h
  row-copied functions (wait_text to after signals) k h = maybe _ after h
  row-copied functions halt_text k h = tt
  row-copied functions (ret_text o) k h = tt

  part-is : (r : OperationRow) (args : List OperandText) → PartIs u r args → PartIs x r (map (copied_operand c) args)
  part-is (takes_part s) args h = record {
    operand = copied_operand c h.operand;
    operands = ap (map (copied_operand c)) h.operands;
    whole = h.whole;
    is = typed h.operand.value h.whole h.is;
    of = h.of;
    written = h.written;
    leads = h.leads;
  }
  part-is (puts_part s) args h = record {
    operand = copied_operand c h.operand;
    new = copied_operand c h.new;
    operands = ap (map (copied_operand c)) h.operands;
    whole = h.whole;
    written = h.written;
    is = typed h.operand.value h.whole h.is;
    carries = h.carries;
    part = h.part;
    leads = h.leads;
    fits = typed h.new.value _ h.fits;
  }
  part-is integers args h = tt
  part-is alike args h = tt
  part-is shifts args h = tt
  part-is selects args h = tt
  part-is elements args h = tt
  part-is fields args h = tt

  -- its part
  pub part-copied : (functions : List UnitText) (i : InstText) → IsCode i → HasPart u i → HasPart x (copied functions c i)
  part-copied functions (sig_text a) k h = elim k [ ]
  part-copied functions (reg_text to triggers) k h = elim k [ ]
  part-copied functions (child_text v inputs outputs) k h = elim k [ ]
  part-copied functions (const_text d) k h = tt
  part-copied functions (pure_text o args) k h = part-is (operation_row o) args h
  part-copied functions (var_text a) k h = tt
  part-copied functions (ld_text p) k h = tt
  part-copied functions (st_text to value) k h = tt
  part-copied functions (prb_text s) k h = tt
  part-copied functions (drv_text to value after cond) k h = tt
  part-copied functions (call_text f result args) k h = tt
  part-copied functions (phi_text ty edges) k h = tt
  part-copied functions (br_text to) k h = tt
  part-copied functions (branch_text cond first second) k h = tt
  part-copied functions (wait_text to after signals) k h = tt
  part-copied functions halt_text k h = tt
  part-copied functions (ret_text o) k h = tt

module _ (c : Copy) where
  one-operand : (args : List OperandText) → ((o : OperandText) × (args ≡ o ∷ [])) → (o : OperandText) × (map (copied_operand c) args ≡ o ∷ [])
  one-operand args h = (copied_operand c h.0, ap (map (copied_operand c)) h.1)

  two-operands : (args : List OperandText) → ((o p : OperandText) × (args ≡ o ∷ p ∷ [])) → (o p : OperandText) × (map (copied_operand c) args ≡ o ∷ p ∷ [])
  two-operands args h = (copied_operand c h.0, copied_operand c h.1, ap (map (copied_operand c)) h.2)

  class-copied : (k : OpClass) (args : List OperandText) → ClassHasOperands k args → ClassHasOperands k (map (copied_operand c) args)
  class-copied class.Unary args h = one-operand args h
  class-copied class.Binary args h = two-operands args h
  class-copied class.Relation args h = two-operands args h
  class-copied class.Equality args h = two-operands args h
  class-copied (class.Repeat n) args h = (one-operand args h.0, h.1)
  class-copied _ args h = tt

  operands-copied : (o : Op) (args : List OperandText) → HasOperands o args → HasOperands o (map (copied_operand c) args)
  operands-copied o args h = class-copied (class_of o) args h

  -- what its text tells
  pub written-copied : (functions : List UnitText) (i : InstText) → IsCode i → IsWrittenRight i → IsWrittenRight (copied functions c i)
  written-copied functions (sig_text a) k h = elim k [ ]
  written-copied functions (reg_text to triggers) k h = elim k [ ]
  written-copied functions (child_text v inputs outputs) k h = elim k [ ]
  written-copied functions (const_text d) k h = h
  written-copied functions (pure_text o args) k h = operands-copied o args h
  written-copied functions (var_text a) k h = tt
  written-copied functions (ld_text p) k h = tt
  written-copied functions (st_text to value) k h = tt
  written-copied functions (prb_text s) k h = tt
  written-copied functions (drv_text to value after cond) k h = tt
  written-copied functions (call_text f result args) k h = tt
  written-copied functions (phi_text ty edges) k h = tt
  written-copied functions (br_text to) k h = tt
  written-copied functions (branch_text cond first second) k h = tt
  written-copied functions (wait_text to after signals) k h = tt
  written-copied functions halt_text k h = tt
  written-copied functions (ret_text o) k h = tt

  length-same : (args : List OperandText) → length (map (copied_operand c) args) ≡ length args
  length-same [] = refl
  length-same (o ∷ more) = ap suc (length-same more)

  types-same : (args : List OperandText) → operand_types (map (copied_operand c) args) ≡ operand_types args
  types-same [] = refl
  types-same (o ∷ more) = ap (with_type o.ty) (types-same more)

  class-same : (k : OpClass) (args : List OperandText) → class_type k (map (copied_operand c) args) ≡ class_type k args
  class-same class.Relation args = refl
  class-same class.Equality args = refl
  class-same class.Array args = (λ j. option_and_then (array_made (length-same args j)) (first-type c args j))
  class-same (class.Repeat n) args = ap (option_and_then (array_made n)) (first-type c args)
  class-same class.Tuple args = ap (option_and_then tuple_made) (types-same args)
  class-same _ args = first-type c args

  -- what it gives has the same type
  pub result-copied : (functions : List UnitText) (i : InstText) → IsCode i → result_type (copied functions c i) ≡ result_type i
  result-copied functions (sig_text a) k = elim k [ ]
  result-copied functions (reg_text to triggers) k = elim k [ ]
  result-copied functions (child_text v inputs outputs) k = elim k [ ]
  result-copied functions (const_text d) k = refl
  result-copied functions (pure_text o args) k = class-same (class_of o) args
  result-copied functions (var_text a) k = refl
  result-copied functions (ld_text p) k = refl
  result-copied functions (st_text to value) k = refl
  result-copied functions (prb_text s) k = refl
  result-copied functions (drv_text to value after cond) k = refl
  result-copied functions (call_text f result args) k = refl
  result-copied functions (phi_text ty edges) k = refl
  result-copied functions (br_text to) k = refl
  result-copied functions (branch_text cond first second) k = refl
  result-copied functions (wait_text to after signals) k = refl
  result-copied functions halt_text k = refl
  result-copied functions (ret_text o) k = refl
