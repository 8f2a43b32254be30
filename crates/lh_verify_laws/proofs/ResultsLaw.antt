-- What an instruction without a fault gives has a type.
use Rattle.std.proofs.Common.{◌≡◌, ℕ, List, [], ◌∷◌, length, true, if◌then◌else◌, Option, Some, None, refl, ap, ◌∙◌}
use Rattle.std.specs.Option.{option_and_then}
use Rattle.lh_types.specs.Types.{TypeTree, TypeRow, array_type, tuple_type, signal_type, pointer_type, no_types, more_types}
use Rattle.lh_types.specs.Faults.{is_data, array_fault}
use Rattle.lh_types.specs.declared.op.Op.{Op}
use Rattle.lh_types.specs.declared.op.Op.TheVariants as op
use Rattle.lh_unit.specs.Contents.{OperandText, InstText, pure_text, var_text, ld_text, sig_text, prb_text, phi_text, UnitText}
use Rattle.lh_unit.specs.Typing.{if_made, array_made, tuple_made, pointer_to, signal_of, pointed, carried, first_type, with_type, operand_types}
use Rattle.lh_unit.specs.Within.{Each}
use Rattle.lh_verify_laws.specs.Operands.{IsWritten, RowIs}
use Rattle.lh_verify_laws.specs.Results.{OperationGives, GivesTypeOfRow, ResultsHaveTypes}
use Rattle.lh_verify_laws.proofs.RowsLaw.{rows_are}

array_given : (n : ℕ) (o : Option TypeTree) (t : TypeTree) → o ≡ Some t → array_fault n t ≡ None → option_and_then (array_made n) o ≡ Some (array_type n t)
array_given n o t e h = ap (option_and_then (array_made n)) e ∙ ap (λ f. if_made f (array_type n t)) h

all_written : (u : UnitText) (args : List OperandText) → Each (λ (o : OperandText). (f : TypeTree) × (is_data f ≡ true) × IsWritten u f o) args → (r : TypeRow) × (operand_types args ≡ Some r)
all_written u [] h = (no_types, refl)
all_written u (o ∷ more) h =
    let w = all_written u more h.1 in
    (more_types h.0.0 w.0, ap (λ x. with_type x (operand_types more)) h.0.2.0 ∙ ap (with_type (Some h.0.0)) w.1)

operation_gives : (u : UnitText) (o : Op) (args : List OperandText) → RowIs u (pure_text o args) → OperationGives o args
operation_gives u op.Eq args h = refl
operation_gives u op.Neq args h = refl
operation_gives u op.Slt args h = refl
operation_gives u op.Sgt args h = refl
operation_gives u op.Sle args h = refl
operation_gives u op.Sge args h = refl
operation_gives u op.Ult args h = refl
operation_gives u op.Ugt args h = refl
operation_gives u op.Ule args h = refl
operation_gives u op.Uge args h = refl
operation_gives u op.Array args h = (h.0, h.1, array_given (length args) (first_type args) h.0 h.1)
operation_gives u (op.Repeat n) args h = (h.0, h.1, array_given n (first_type args) h.0 h.1)
operation_gives u op.Tuple args h =
    let w = all_written u args h.2 in
    (w.0, w.1, λ f. ap (option_and_then tuple_made) w.1 ∙ ap (λ x. if_made x (tuple_type w.0)) f)
operation_gives u _ args h = (h.0, h.1, h.1)

pub gives : (u : UnitText) (i : InstText) → RowIs u i → GivesTypeOfRow i
gives u (pure_text o args) h = operation_gives u o args h
gives u (var_text a) h = (h.0, h.2.0, ap (option_and_then pointer_to) h.2.0 ∙ ap (λ b. if b then Some (pointer_type h.0) else None) h.1)
gives u (ld_text p) h = (h.0, h.1.0, ap (option_and_then pointed) h.1.0)
gives u (sig_text a) h = (h.0, h.2.0, ap (option_and_then signal_of) h.2.0 ∙ ap (λ b. if b then Some (signal_type h.0) else None) h.1)
gives u (prb_text s) h = (h.0, h.1.0, ap (option_and_then carried) h.1.0)
gives u (phi_text ty edges) h = refl
gives u _ h = tt

pub results_have_types : ResultsHaveTypes
results_have_types items s f c = gives s.unit s.place.line.inst (rows_are items s f c)
