-- The types of the operands of an instruction without a fault, row by row.
use Rattle.std.proofs.Common.{◌≡◌, ℕ, List, [], ◌∷◌, true, false, ◌&&◌, Option, Some, None, refl, ap, sym, ◌∙◌, subst}
use Rattle.std.specs.List.{list_all}
use Rattle.std.specs.Option.{option_and_then, option_map_or}
use Rattle.std.proofs.lemmas.Bool.{false≢true, and_parts}
use Rattle.lh_types.specs.Types.{TypeTree, int_type, time_type, void_type, array_type, signal_type, pointer_type, same_type}
use Rattle.lh_types.specs.Faults.{is_data}
use Rattle.lh_types.specs.Same.{same-is}
use Rattle.lh_types.specs.declared.part.Step.{Step}
use Rattle.lh_unit.specs.Contents.{OperandText, TriggerText, EdgeText, InstText, const_text, pure_text, var_text, ld_text, st_text, sig_text, prb_text, drv_text, reg_text, child_text, call_text, phi_text, br_text, branch_text, wait_text, halt_text, ret_text, UnitText}
use Rattle.lh_unit.specs.Typing.{value_type, is_value_type, pointed, carried, first_type}
use Rattle.lh_unit.specs.TypingRows.{has_type, has_some_type, may_have_type, agrees, all_agree, all_have, is_integer, is_array_of, type_satisfies, part_type, OperationRow, integers, alike, shifts, selects, takes_part, puts_part, elements, fields, operation_row, row_fits, operation_fits, bit, driven_type, trigger_fits, stored_type, written_fits, is_pointer, is_signal, returns_fit, types_fit}
use Rattle.lh_unit.specs.Within.{Each}
use Rattle.lh_verify_laws.specs.Operands.{IsOf, IsAsWritten, IsWritten, IsLike, OperationIs, TriggerIs, ReturnIs, RowIs, RowsAre}
use Rattle.lh_verify_laws.proofs.Bools.{all_three, all_four, each_passes}
use Rattle.lh_verify_laws.proofs.TypesOf.{has_type-is, has_some-is, has_known, may-be, as_written, like, written, satisfies, pointer_is, signal_is, integer_is, array_is}
use Rattle.lh_verify_laws.proofs.OperandsLaw.{types_fit_all}
use Rattle.lh_unit.proofs.Within.{Each-more}

each_like : (u : UnitText) (t : TypeTree) (args : List OperandText) → all_have u t args ≡ true → Each (IsLike u t) args
each_like u t args h = Each-more (λ (o : OperandText). (has_type u t o.value && agrees u o) ≡ true) (IsLike u t) args (like u t)
    (each_passes (λ (o : OperandText). has_type u t o.value && agrees u o) args h)

each_written : (u : UnitText) (os : List OperandText) → all_agree u os ≡ true → Each (IsAsWritten u) os
each_written u os h = Each-more (λ o. agrees u o ≡ true) (IsAsWritten u) os (as_written u) (each_passes (agrees u) os h)

some_integer : (u : UnitText) (n : List ℕ) → type_satisfies u is_integer n ≡ true → (k : ℕ) × IsOf u (int_type k) n
some_integer u n h = let s = satisfies u is_integer n h in let i = integer_is s.0 s.2 in (i.0, s.1 ∙ ap Some i.1)

some_array : (u : UnitText) (t : TypeTree) (n : List ℕ) → type_satisfies u (is_array_of t) n ≡ true → (k : ℕ) × IsOf u (array_type k t) n
some_array u t n h = let s = satisfies u (is_array_of t) n h in let i = array_is t s.0 s.2 in (i.0, s.1 ∙ ap Some i.1)

-- the part is of the type that is written
part_found : (s : Step) (t : TypeTree) (o : Option TypeTree) → option_map_or (same_type t) (option_and_then (part_type s) o) false ≡ true → (whole : TypeTree) × (o ≡ Some whole)
    × (part_type s whole ≡ Some t)
part_found s t None h = absurd (false≢true h)
part_found s t (Some w) h = (w, refl, at (part_type s w) h)
  where
    at : (p : Option TypeTree) → option_map_or (same_type t) p false ≡ true → p ≡ Some t
    at None g = absurd (false≢true g)
    at (Some r) g = ap Some (sym (same-is t r g))

field_is : (u : UnitText) (o : OperandText) → (option_map_or is_data o.ty false && agrees u o) ≡ true → (f : TypeTree) × (is_data f ≡ true) × IsWritten u f o
field_is u o h =
    let b = and_parts (option_map_or is_data o.ty false) (agrees u o) h in
    let d = at o.ty b.0 in (d.0, d.1, (d.2, as_written u o b.1 d.0 d.2))
  where
    at : (w : Option TypeTree) → option_map_or is_data w false ≡ true → (f : TypeTree) × (is_data f ≡ true) × (w ≡ Some f)
    at None g = absurd (false≢true g)
    at (Some f) g = (f, g, refl)

operation_is : (u : UnitText) (r : OperationRow) (t : TypeTree) (args : List OperandText) → row_fits u r t args ≡ true → OperationIs u r t args
operation_is u integers t args h = let b = and_parts (is_integer t) (all_have u t args) h in (integer_is t b.0, each_like u t args b.1)
operation_is u alike t args h = let b = and_parts (is_data t) (all_have u t args) h in (b.0, each_like u t args b.1)
operation_is u shifts t (x ∷ y ∷ n ∷ []) h =
    let b = all_four (is_integer t) (all_have u t (x ∷ y ∷ [])) (type_satisfies u is_integer n.value) (agrees u n) h in
    let e = each_like u t (x ∷ y ∷ []) b.1 in
    (integer_is t b.0, e.0, e.1.0, some_integer u n.value b.2, as_written u n b.3)
operation_is u selects t (x ∷ s ∷ []) h =
    let b = all_three (is_data t) (type_satisfies u (is_array_of t) x.value) (type_satisfies u is_integer s.value) h in
    (b.0, some_array u t x.value b.1, some_integer u s.value b.2)
operation_is u (takes_part s) t (x ∷ []) h = part_found s t (value_type u x.value) h
operation_is u (puts_part s) t (x ∷ v ∷ []) h =
    let b = all_three (is_data t) (has_type u t x.value) (has_some_type u (part_type s t) v.value) h in
    (b.0, has_type-is u t x.value b.1, has_some-is u (part_type s t) v.value b.2)
operation_is u elements t args h = let b = and_parts (is_data t) (all_have u t args) h in (b.0, each_like u t args b.1)
operation_is u fields t args h =
    Each-more (λ (o : OperandText). (option_map_or is_data o.ty false && agrees u o) ≡ true) (λ (o : OperandText). (f : TypeTree) × (is_data f ≡ true) × IsWritten u f o) args (field_is u)
    (each_passes (λ (o : OperandText). option_map_or is_data o.ty false && agrees u o) args h)
operation_is u _ t args h = absurd (false≢true h)

fits_first : (u : UnitText) (r : OperationRow) (o : Option TypeTree) (args : List OperandText) → operation_fits u r o args ≡ true → (t : TypeTree) × (o ≡ Some t) × OperationIs u r t args
fits_first u r None args h = absurd (false≢true h)
fits_first u r (Some t) args h = (t, refl, operation_is u r t args h)

-- what is written before a pointer, and before a signal
some_pointer : (u : UnitText) (o : OperandText) → written_fits u is_pointer o ≡ true → (t : TypeTree) × IsWritten u (pointer_type t) o
some_pointer u o h = let w = written u is_pointer o h in let p = pointer_is w.0 w.1 in let P : TypeTree → Type 0 = λ z. IsWritten u z o in (p.0, subst P p.1 w.2)

some_signal : (u : UnitText) (o : OperandText) → written_fits u is_signal o ≡ true → (t : TypeTree) × IsWritten u (signal_type t) o
some_signal u o h = let w = written u is_signal o h in let p = signal_is w.0 w.1 in let P : TypeTree → Type 0 = λ z. IsWritten u z o in (p.0, subst P p.1 w.2)

trigger_is : (u : UnitText) (to : OperandText) (t : TypeTree) → driven_type to ≡ Some t → (g : TriggerText) → trigger_fits u to g ≡ true → TriggerIs u t g
trigger_is u to t e g h =
    let b = all_four (has_some_type u (driven_type to) g.value) (has_type u bit g.trigger) (may_have_type u bit g.gate) (may_have_type u time_type g.after) h in
    record { value = has_known u (driven_type to) t g.value e b.0; trigger = has_type-is u bit g.trigger b.1; gate = may-be u bit g.gate b.2; after = may-be u time_type g.after b.3 }

return_is : (u : UnitText) (r : Option TypeTree) (o : Option OperandText) → returns_fit u r o ≡ true → ReturnIs u r o
return_is u None o h = tt
return_is u (Some t) None h = same-is t void_type h
return_is u (Some t) (Some o) h =
    let w = written u (λ s. is_value_type s && same_type s t) o h in
    let b = and_parts (is_value_type w.0) (same_type w.0 t) w.1 in
    let e = same-is w.0 t b.1 in let P : TypeTree → Type 0 = λ z. (is_value_type z ≡ true) × IsWritten u z o in subst P e (b.0, w.2)

pub row_is : (u : UnitText) (i : InstText) → types_fit u i ≡ true → RowIs u i
row_is u (const_text d) h = tt
row_is u (pure_text o args) h = fits_first u (operation_row o) (first_type args) args h
row_is u (var_text a) h = written u is_value_type a h
row_is u (ld_text p) h = some_pointer u p h
row_is u (st_text to value) h =
    let b = and_parts (written_fits u is_pointer to) (has_some_type u (stored_type to) value) h in
    let p = some_pointer u to b.0 in (p.0, p.1, has_known u (stored_type to) p.0 value (ap (option_and_then pointed) p.1.0) b.1)
row_is u (sig_text a) h = written u is_data a h
row_is u (prb_text s) h = some_signal u s h
row_is u (drv_text to value after c) h =
    let b = all_four (written_fits u is_signal to) (has_some_type u (driven_type to) value) (has_type u time_type after) (may_have_type u bit c) h in
    let p = some_signal u to b.0 in (p.0, p.1, has_known u (driven_type to) p.0 value (ap (option_and_then carried) p.1.0) b.1, has_type-is u time_type after b.2, may-be u bit c b.3)
row_is u (reg_text to triggers) h =
    let b = and_parts (written_fits u is_signal to) (list_all (trigger_fits u to) triggers) h in
    let p = some_signal u to b.0 in
    (p.0, p.1, Each-more (λ g. trigger_fits u to g ≡ true) (TriggerIs u p.0) triggers (trigger_is u to p.0 (ap (option_and_then carried) p.1.0)) (each_passes (trigger_fits u to) triggers b.1))
row_is u (child_text v inputs outputs) h = let b = and_parts (all_agree u inputs) (all_agree u outputs) h in (each_written u inputs b.0, each_written u outputs b.1)
row_is u (call_text f result args) h = each_written u args h
row_is u (phi_text ty edges) h =
    let b = and_parts (is_value_type ty) (list_all (λ (e : EdgeText). has_type u ty e.value) edges) h in (
      b.0,
      Each-more (λ (e : EdgeText). has_type u ty e.value ≡ true) (λ (e : EdgeText). IsOf u ty e.value) edges (λ e g. has_type-is u ty e.value g)
          (each_passes (λ (e : EdgeText). has_type u ty e.value) edges b.1),
    )
row_is u (br_text to) h = tt
row_is u (branch_text c first second) h = has_type-is u bit c h
row_is u (wait_text to after signals) h = may-be u time_type after h
row_is u halt_text h = tt
row_is u (ret_text o) h = return_is u u.result o h

pub rows_are : RowsAre
rows_are items s f c = row_is s.unit s.place.line.inst (types_fit_all items s f c)
