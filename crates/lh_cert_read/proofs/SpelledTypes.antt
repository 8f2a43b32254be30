-- What a constant or an operation gives has a type, where it is spelled: arrays and structs are within the limits.
use Rattle.std.proofs.Common.{◌≡◌, ◌≤◌, ℕ, false, List, [], ◌∷◌, length, Option, Some, None, IsSome, refl, ap, sym, ◌∙◌, subst, arith, le-ltb}
use Rattle.std.proofs.lemmas.Option.{same_Some, none-some}
use Rattle.lh_types.specs.Types.{TypeTree, TypeRow, int_type, array_type, tuple_type, no_types, more_types, row_of, bit_count_row, IsData}
use Rattle.lh_types.specs.Faults.{is_empty_row, int_fault}
use Rattle.lh_types.specs.Values.{Datum, int_value, time_value}
use Rattle.lh_types.specs.declared.op.Op.{Op}
use Rattle.lh_types.specs.declared.op.Op.TheVariants as op
use Rattle.lh_types.proofs.TypeFaults.{array-again, tuple-again, above_zero}
use Rattle.lh_unit.specs.Contents.{OperandText, const_text}
use Rattle.lh_unit.specs.Lexemes.{Lexeme}
use Rattle.lh_unit.specs.SpellsInst.{written_types, SpellsPure, SpellsInst}
use Rattle.lh_unit.specs.Typing.{if_made, with_type, operand_types, operation_type, result_type}
use Rattle.lh_verify_laws.specs.Results.{OperationGives}
use Rattle.lh_eval_laws.proofs.OperandsFound.{is-some}

-- ---- types within their limits

int-made : (n : ℕ) → IsData (int_type n) → int_fault n ≡ None
int-made n h = let a = above_zero n h.0 in let b = le-ltb 128 n h.1 in rw (a, b) refl

filled : (r : TypeRow) → 1 ≤ bit_count_row r → is_empty_row r ≡ false
filled no_types h = absurd (omega (arith, h))
filled (more_types t r) h = refl

-- the types before operands, where each has one
types-written : (args : List OperandText) (r : TypeRow) → operand_types args ≡ Some r → row_of (written_types args) ≡ r
types-written [] r e = same_Some no_types r e
types-written (o ∷ args) r e = by o.ty (operand_types args) refl e (types-written args)
  where
    by : (t : Option TypeTree) (ts : Option TypeRow) → operand_types args ≡ ts → with_type t ts ≡ Some r → ((r : TypeRow) → operand_types args ≡ Some r → row_of (written_types args) ≡ r)
        → row_of (elim t [ None ↦ written_types args | Some t ↦ t ∷ written_types args ]) ≡ r
    by None ts q p go = absurd (none-some r p)
    by (Some t) None q p go = absurd (none-some r p)
    by (Some t) (Some s) q p go = ap (more_types t) (go s q) ∙ same_Some (more_types t s) r p

-- ---- the result of a line of a unit

pub constant-typed : (d : Datum) (ts : List Lexeme) → SpellsInst (const_text d) ts → IsSome (result_type (const_text d))
constant-typed (int_value n bits) ts h = is-some (if_made (int_fault n) (int_type n)) (int_type n) (ap (λ f. if_made f (int_type n)) (int-made n h.3.1))
constant-typed (time_value d) ts h = refl
constant-typed _ ts h = absurd h

array-typed : (args : List OperandText) (ts : List Lexeme) → SpellsPure op.Array args ts → OperationGives op.Array args → IsSome (operation_type op.Array args)
array-typed [] ts h g = absurd h
array-typed (o ∷ rest) ts h g =
    let same : h.0 ≡ g.0 = same_Some h.0 g.0 (sym h.4 ∙ g.1) in
    is-some (operation_type op.Array (o ∷ rest)) (array_type (length (o ∷ rest)) g.0) (g.2 (array-again (length (o ∷ rest)) g.0 (subst (λ t. IsData (array_type (length (o ∷ rest)) t)) same h.7)))

repeat-typed : (n : ℕ) (args : List OperandText) (ts : List Lexeme) → SpellsPure (op.Repeat n) args ts → OperationGives (op.Repeat n) args → IsSome (operation_type (op.Repeat n) args)
repeat-typed n [] ts h g = absurd h
repeat-typed n (o ∷ p ∷ rest) ts h g = absurd h
repeat-typed n (o ∷ []) ts h g =
    let same : h.0 ≡ g.0 = same_Some h.0 g.0 (sym h.5 ∙ g.1) in
    is-some (operation_type (op.Repeat n) (o ∷ [])) (array_type n g.0) (g.2 (array-again n g.0 (subst (λ t. IsData (array_type n t)) same h.7)))

pub operation-typed : (o : Op) (args : List OperandText) (ts : List Lexeme) → SpellsPure o args ts → OperationGives o args → IsSome (operation_type o args)
operation-typed op.Eq args ts h g = refl
operation-typed op.Neq args ts h g = refl
operation-typed op.Slt args ts h g = refl
operation-typed op.Sgt args ts h g = refl
operation-typed op.Sle args ts h g = refl
operation-typed op.Sge args ts h g = refl
operation-typed op.Ult args ts h g = refl
operation-typed op.Ugt args ts h g = refl
operation-typed op.Ule args ts h g = refl
operation-typed op.Uge args ts h g = refl
operation-typed op.Array args ts h g = array-typed args ts h g
operation-typed (op.Repeat n) args ts h g = repeat-typed n args ts h g
operation-typed op.Tuple args ts h g =
    is-some (operation_type op.Tuple args) (tuple_type g.0) (g.2 (tuple-again g.0 (subst (λ (r : TypeRow). IsData (tuple_type r)) (types-written args g.0 g.1) h.3)))
operation-typed o args ts h g = is-some (operation_type o args) g.0 g.2
