-- What is asked where a line is taken by ids, and what an operation gives.
use Rattle.std.proofs.Common.{◌≡◌, ℕ, ◌+◌, ◌≤◌, ◌<◌, ◌^◌, List, [], ◌∷◌, length, map, Option, Some, None, refl, ap, sym, ◌∙◌, subst, arith}
use Rattle.std.specs.Option.{option_and_then, option_map}
use Rattle.std.proofs.lemmas.Option.{same_Some, none-some}
use Rattle.lh_types.specs.Types.{TypeTree, IsData, bit_count}
use Rattle.lh_types.specs.Parts.{range_of}
use Rattle.lh_types.specs.declared.op.Op.{Op}
use Rattle.lh_types.specs.declared.part.Range.{Range}
use Rattle.lh_types.specs.declared.part.Step.{Step}
use Rattle.lh_unit.specs.Arena.{Arena, naming, value_count, sizes}
use Rattle.lh_unit.specs.Contents.{OperandText}
use Rattle.lh_unit.specs.Effects.{step_of}
use Rattle.lh_unit.specs.Naming.{operand_text}
use Rattle.lh_unit.specs.Table.{ResultWithin}
use Rattle.lh_unit.specs.Typing.{carried, or_else}
use Rattle.lh_unit.specs.Within.{Each, MaybeWithin, TriggerWithin}
use Rattle.lh_unit.specs.declared.inst.RegTrigger.{RegTrigger}
use Rattle.lh_unit.specs.declared.inst.Typed.{Typed}
use Rattle.lh_unit.specs.declared.inst.ValueId.{ValueId}
use Rattle.lh_flat_parts.specs.Steps as steps
use Rattle.lh_flat_parts.specs.Steps.{step_if, step_on, range_by}
use Rattle.lh_flat_parts.specs.declared.step.PartStep.{PartStep}
use Rattle.lh_term.specs.Tree.{Tree, operation_on, tree_row}
use Rattle.lh_term.specs.Types.{IsTyped, TakesTypes, types_of}
use Rattle.lh_term.specs.Arena.{trees_at, AreIn}
use Rattle.lh_term.specs.declared.part.Part.{Part}
use Rattle.lh_term.specs.declared.term.TermId.{TermId}
use Rattle.lh_term.specs.declared.term.TermNode.{TermNode}
use Rattle.lh_region_def.specs.Known.{known_value, known_part, Knowledge, part_known, values_known}
use Rattle.lh_region_def.specs.Places.{stepped, part_stepped}
use Rattle.lh_cert_terms.specs.Rebuilding.{read_operation}
use Rattle.lh_cert_rows.specs.Reading.{operated}
use Rattle.lh_cert_read.specs.Known.{part_at, terms_at, part_by, MaybeIn, IsKnown, Knows}
use Rattle.lh_cert_read.specs.Lines.{CanStep, StepFits, TriggerIn}
use Rattle.lh_cert_read.specs.declared.known.Known.{Known}
use Rattle.lh_cert_read.specs.declared.known.Known.TheVariants as known
use Rattle.lh_cert_read.proofs.Found.{AreFound, terms-found, part-found, part-small}

-- ---- ids are in place

pub name-in : (n : ℕ) (values : List (Option Known)) (r : Option ValueId) → length values ≡ n → ResultWithin n r → MaybeIn values r
name-in n values None e w = tt
name-in n values (Some v) e w = omega (arith, e, w)

pub maybe-in : (a : Arena) (u : ℕ) (values : List (Option Known)) (r : Option ValueId) → length values ≡ value_count a u → MaybeWithin (sizes a u) r → MaybeIn values r
maybe-in a u values None e w = tt
maybe-in a u values (Some v) e w = omega (arith, e, w)

pub trigger-in : (a : Arena) (u : ℕ) (values : List (Option Known)) → length values ≡ value_count a u → (g : RegTrigger) → TriggerWithin (sizes a u) g → TriggerIn values g
trigger-in a u values e g w = record {
  value = omega (arith, e, w.0);
  trigger = omega (arith, e, w.1);
  gate = maybe-in a u values g.gate e w.2;
  after = maybe-in a u values g.after e w.3;
}

-- ---- an operation

-- what is known of the operands, of a typed operation and of a step
abbrev pub OperationFits : Knowledge → Op → List OperandText → Type 0
OperationFits k o os =
    ((ts : List Tree) → values_known k os ≡ Some ts → IsTyped (operation_on o ts))
    × ((x : OperandText) (p : Part) → os ≡ x ∷ [] → part_known k x.value ≡ Some p →
    IsData p.ty × ((t : TypeTree) (r : Range) → option_and_then carried x.ty ≡ Some t → range_by p.ty o ≡ Some r → (r.len ≡ bit_count t) × (r.lo + r.len ≤ bit_count p.ty)))

further : (a b c n m : ℕ) → a + n < 2 ^ 32 → b + m ≤ n → m ≡ c → (a + b) + c < 2 ^ 32
further a b c n m x y z = omega (arith, x, y, z)

module _ (a : Arena) (u : ℕ) (ns : List TermNode) (values : List (Option Known)) (k : Knowledge) (h : Knows a u ns values k) (o : Op) (args : List Typed)
    (within : Each (λ (x : Typed). x.value.0 < length values) args) where
  pub operands-fit : OperationFits k o (map (operand_text (naming a u)) args) → (ids : List TermId) → terms_at values args ≡ Some ids
      → AreIn ns ids × TakesTypes o (types_of (tree_row (trees_at ns ids)))
  operands-fit fits ids q =
      let f = subst (λ x. AreFound ns x (values_known k (map (operand_text (naming a u)) args))) q (terms-found a u ns values k h args within) in
      (f.0, (fits.0 (trees_at ns ids) f.1).1)

  pub step-fits : OperationFits k o (map (operand_text (naming a u)) args) → StepFits values (step_on o args)
  step-fits fits s p qs qp = by args within fits qs
    where
      one : (x : Typed) → x.value.0 < length values → OperationFits k o (operand_text (naming a u) x ∷ []) → (S : Option Step) (C : Option TypeTree) → option_and_then carried x.ty ≡ C
          → step_if o x.value S C ≡ Some s → CanStep p s
      one x w fits (Some S) (Some t) qc q =
          let step : PartStep = record { from = x.value; op = o; ty = t } in
          let same : step ≡ s = same_Some step s q in
          let there : part_at values x.value ≡ Some p = ap (λ (y : PartStep). part_at values y.from) same ∙ qp in
          let z = fits.1 (operand_text (naming a u) x) p refl (sym (part-found a u ns values k h x.value w) ∙ there) in
          let small : p.lo + bit_count p.ty < 2 ^ 32 = part-small a u ns values k h x.value w p there in
          subst (CanStep p) same (record {
            is_data = z.0;
            in_range = λ r qr. let y = z.1 t r qc qr in further p.lo r.lo (bit_count t) (bit_count p.ty) r.len small y.1 y.0;
          })
      one x w fits None C qc q = absurd (none-some s q)
      one x w fits (Some S) None qc q = absurd (none-some s q)

      by : (args : List Typed) → Each (λ (x : Typed). x.value.0 < length values) args → OperationFits k o (map (operand_text (naming a u)) args) → step_on o args ≡ Some s → CanStep p s
      by [] w fits q = absurd (none-some s q)
      by (x ∷ []) w fits q = one x w.0 fits (step_of o) (option_and_then carried x.ty) refl q
      by (x ∷ y ∷ more) w fits q = absurd (none-some s q)

  -- a step leads to the part that is known
  pub step-known : (ms : List TermNode) → StepFits values (step_on o args) → IsKnown ms (option_map known.Part (part_by values (step_on o args))) (part_stepped k o (map (operand_text (naming a u)) args))
  step-known ms fits = by args within fits
    where
      ranged : (t : TypeTree) (p : Part) → (R : Option Range) → ((r : Range) → R ≡ Some r → (p.lo + r.lo) + bit_count t < 2 ^ 32)
          → IsKnown ms (option_map known.Part (option_map (steps.part_within p t) R)) (option_map (λ (r : Range). known_part (record { arg = p.arg; lo = p.lo + r.lo; ty = t })) R)
      ranged t p None g = tt
      ranged t p (Some r) g = (refl, g r refl)

      one : (x : Typed) (P : Option Part) → part_at values x.value ≡ P → (S : Option Step) → step_of o ≡ S → (C : Option TypeTree) → StepFits values (step_if o x.value S C)
          → IsKnown ms (option_map known.Part (part_by values (step_if o x.value S C))) (stepped P C S)
      one x None qp None qs C f = tt
      one x None qp (Some S) qs None f = tt
      one x None qp (Some S) qs (Some t) f = subst (λ (y : Option Part). IsKnown ms (option_map known.Part (option_and_then (λ p. steps.stepped p (record { from = x.value; op = o; ty = t })) y)) None) (sym qp) tt
      one x (Some p) qp None qs None f = tt
      one x (Some p) qp None qs (Some t) f = tt
      one x (Some p) qp (Some S) qs None f = tt
      one x (Some p) qp (Some S) qs (Some t) f =
          let step : PartStep = record { from = x.value; op = o; ty = t } in
          let can : CanStep p step = f step p refl qp in
          let same : range_by p.ty o ≡ range_of p.ty (S ∷ []) = ap (option_and_then (λ s. range_of p.ty (s ∷ []))) qs in
          let have = ranged t p (range_of p.ty (S ∷ [])) (λ r q. can.in_range r (same ∙ q)) in
          subst (λ (y : Option Part). IsKnown ms (option_map known.Part (option_and_then (λ q. steps.stepped q step) y))
          (option_map (λ (r : Range). known_part (record { arg = p.arg; lo = p.lo + r.lo; ty = t })) (range_of p.ty (S ∷ [])))) (sym qp)
          (subst (λ R. IsKnown ms (option_map known.Part (option_map (steps.part_within p t) R)) (option_map (λ (r : Range). known_part (record { arg = p.arg; lo = p.lo + r.lo; ty = t })) (range_of p.ty (S ∷ []))))
          (sym same) have)

      by : (args : List Typed) → Each (λ (x : Typed). x.value.0 < length values) args → StepFits values (step_on o args)
          → IsKnown ms (option_map known.Part (part_by values (step_on o args))) (part_stepped k o (map (operand_text (naming a u)) args))
      by [] w f = tt
      by (x ∷ []) w f =
          subst (λ (P : Option Part). IsKnown ms (option_map known.Part (part_by values (step_on o (x ∷ [])))) (stepped P (option_and_then carried x.ty) (step_of o)))
          (part-found a u ns values k h x.value w.0) (one x (part_at values x.value) refl (step_of o) refl (option_and_then carried x.ty) f)
      by (x ∷ y ∷ more) w f = tt

  -- what the operation gives, where its operands have terms
  pub operated-term : (ids : List TermId) → terms_at values args ≡ Some ids → operated k o (map (operand_text (naming a u)) args) ≡ Some (known_value (read_operation o (trees_at ns ids)))
  operated-term ids q =
      let f = subst (λ x. AreFound ns x (values_known k (map (operand_text (naming a u)) args))) q (terms-found a u ns values k h args within) in
      ap (λ x. or_else (option_map (λ ts. known_value (read_operation o ts)) x) (part_stepped k o (map (operand_text (naming a u)) args))) f.1

  -- and where they have none
  pub operated-part : terms_at values args ≡ None → operated k o (map (operand_text (naming a u)) args) ≡ part_stepped k o (map (operand_text (naming a u)) args)
  operated-part q =
      let f = subst (λ x. AreFound ns x (values_known k (map (operand_text (naming a u)) args))) q (terms-found a u ns values k h args within) in
      ap (λ x. or_else (option_map (λ ts. known_value (read_operation o ts)) x) (part_stepped k o (map (operand_text (naming a u)) args))) f
