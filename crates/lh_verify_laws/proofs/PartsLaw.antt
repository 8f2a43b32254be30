-- The steps of an instruction without a fault lead to parts.
use Rattle.std.proofs.Common.{◌≡◌, ℕ, ◌+◌, List, [], ◌∷◌, true, Option, Some, None, refl, ap, sym, ◌∙◌, subst, arith}
use Rattle.std.specs.Option.{option_map, option_and_then}
use Rattle.std.proofs.lemmas.Bool.{false≢true}
use Rattle.std.proofs.lemmas.Option.{none-some}
use Rattle.lh_types.specs.Types.{TypeTree, signal_type, bit_count}
use Rattle.lh_types.specs.Faults.{is_data}
use Rattle.lh_types.specs.Parts.{Part, part_beyond, step_part, part_of, part_range}
use Rattle.lh_types.specs.declared.part.Step.{Step}
use Rattle.lh_types.specs.declared.part.Range.{Range}
use Rattle.lh_unit.specs.Contents.{OperandText, InstText, pure_text, UnitText}
use Rattle.lh_unit.specs.Typing.{first_type}
use Rattle.lh_unit.specs.TypingRows.{part_type, OperationRow, takes_part, puts_part, operation_row}
use Rattle.lh_verify_laws.specs.Operands.{IsOf, OperationIs, RowIs}
use Rattle.lh_verify_laws.specs.Parts.{StepLeadsTo, PartIs, HasPart, PartsAreThere, PartsHaveRanges}
use Rattle.lh_verify_laws.proofs.RowsLaw.{rows_are}

mapped : (f : TypeTree → TypeTree) (o : Option Part) (of : TypeTree) → option_map (λ (p : Part). f p.of) o ≡ Some of → (p : Part) × (o ≡ Some p) × (of ≡ f p.of)
mapped f None of h = absurd (none-some _ h)
mapped f (Some p) of h = (p, refl, let e : Some of ≡ Some (f p.of) = sym h in cc)

leads : (s : Step) (whole of : TypeTree) → part_type s whole ≡ Some of → StepLeadsTo s whole of
leads s (signal_type t) of h = mapped signal_type (step_part t s) of h
leads s t of h = mapped (λ x. x) (step_part t s) of h

data_part : (s : Step) (t of : TypeTree) → is_data t ≡ true → StepLeadsTo s t of → (p : Part) × (step_part t s ≡ Some p) × (of ≡ p.of)
data_part s (signal_type t) of d h = absurd (false≢true d)
data_part s t of d h = h

part_is : (u : UnitText) (r : OperationRow) (t : TypeTree) (args : List OperandText) → first_type args ≡ Some t → OperationIs u r t args → PartIs u r args
part_is u (takes_part s) t (x ∷ []) e h = record { operand = x; operands = refl; whole = h.0; is = h.1; of = t; written = e; leads = leads s h.0 t h.2 }
part_is u (takes_part s) t [] e h = absurd h
part_is u (takes_part s) t (x ∷ y ∷ more) e h = absurd h
part_is u (puts_part s) t (x ∷ v ∷ []) e h =
    let q = data_part s t h.2.0 h.0 (leads s t h.2.0 h.2.1) in
    let P : TypeTree → Type 0 = λ z. IsOf u z v.value in
    record { operand = x; new = v; operands = refl; whole = t; written = e; is = h.1; carries = h.0; part = q.0; leads = q.1; fits = subst P q.2 h.2.2 }
part_is u (puts_part s) t [] e h = absurd h
part_is u (puts_part s) t (x ∷ []) e h = absurd h
part_is u (puts_part s) t (x ∷ y ∷ z ∷ more) e h = absurd h
part_is u _ t args e h = tt

has_part : (u : UnitText) (i : InstText) → RowIs u i → HasPart u i
has_part u (pure_text o args) h = part_is u (operation_row o) h.0 args h.1 h.2
has_part u _ h = tt

pub parts_are_there : PartsAreThere
parts_are_there items s f c = has_part s.unit s.place.line.inst (rows_are items s f c)

plus_zero : (n : ℕ) → n + 0 ≡ n
plus_zero n = omega arith

pub parts_have_ranges : PartsHaveRanges
parts_have_ranges t s p e =
    ap (λ o. option_map part_range (option_and_then (λ (q : Part). option_map (part_beyond q.lo) (part_of q.of [])) o)) e
    ∙ ap (λ n. Some (let r : Range = record { lo = n; len = bit_count p.of } in r)) (plus_zero p.lo)
