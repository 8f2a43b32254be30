-- The terms of the lines of an entity fit the constructors that are called for them.
use Rattle.std.proofs.Common.{◌≡◌, ◌⊎◌, inl, inr, ℕ, ◌+◌, ◌≤◌, List, [], ◌∷◌, true, Option, Some, None, IsSome, refl, ap, sym, ◌∙◌, subst}
use Rattle.std.specs.Option.{option_and_then}
use Rattle.std.proofs.lemmas.Option.{same_Some, none-some}
use Rattle.lh_types.specs.Types.{TypeTree, IsData, bit_count}
use Rattle.lh_types.specs.declared.op.Op.{Op}
use Rattle.lh_types.specs.declared.part.Range.{Range}
use Rattle.lh_types.specs.Parts.{range_of}
use Rattle.lh_types.proofs.PartLemmas.{step_part-within}
use Rattle.lh_unit.specs.Contents.{OperandText, InstText, const_text, pure_text, LineText, UnitText}
use Rattle.lh_unit.specs.Held.{front}
use Rattle.lh_unit.specs.Lexemes.{Lexeme}
use Rattle.lh_unit.specs.Pieces.{lexemes_in}
use Rattle.lh_unit.specs.Spells.{inst_item}
use Rattle.lh_unit.specs.SpellsInst.{SpellsInst, SpellsLine}
use Rattle.lh_unit.specs.Typing.{result_type, carried}
use Rattle.lh_unit.specs.WellFormed.{values_named}
use Rattle.lh_unit.specs.Within.{Each}
use Rattle.lh_verify_laws.specs.Operands.{RowIs}
use Rattle.lh_verify_laws.specs.Parts.{HasPart}
use Rattle.lh_verify_laws.proofs.PartsLaw.{parts_have_ranges}
use Rattle.lh_verify_laws.proofs.ResultsLaw.{gives}
use Rattle.lh_text_laws.specs.ItemLines.{item_line}
use Rattle.lh_text_laws.specs.Printable.{HasInstLine}
use Rattle.lh_eval.specs.Sound.{IsWrittenRight}
use Rattle.lh_eval.proofs.GivesFit.{constants-fit}
use Rattle.lh_eval_laws.proofs.FindingPass.{KnownNames}
use Rattle.lh_eval_laws.proofs.OperandsFound.{some-of}
use Rattle.lh_flat_parts.specs.Steps.{range_by}
use Rattle.lh_term.specs.Tree.{Tree}
use Rattle.lh_term.specs.declared.part.Part.{Part}
use Rattle.lh_region_def.specs.Known.{Known, known_value, known_cell, known_part, Knowledge, as_value, as_part, value_known, part_known, values_known}
use Rattle.lh_region_def.proofs.KnowledgeChanges.{constant-typed}
use Rattle.lh_region_def.proofs.Operations.{part-known, operands-typed, operation-typed, operation-known, PartStep}
use Rattle.lh_cert_rows.specs.Reading.{EntityText}
use Rattle.lh_cert_rows.proofs.EntityUnits.{LineFine}
use Rattle.lh_cert_rows.proofs.LineRows.{ReadFine, LineKind, a_constant, an_operation, a_probe, a_drive, a_register, UsesKnown, uses-known, line-kind, probe-of, operands-of}
use Rattle.lh_cert_read.specs.Lines.{LineFits}
use Rattle.lh_cert_read.proofs.SpelledTypes.{constant-typed as constant-given, operation-typed as operation-given}

-- ---- what a line gives has a type

of-line : (P : InstText → Type 0) → ((i : InstText) (ts : List Lexeme) → SpellsInst i ts → P i) → (r : Option (List ℕ)) (i : InstText) (ts : List Lexeme) → SpellsLine r i ts → P i
of-line P go None i ts h = go i ts h.1
of-line P go (Some r) i ts h = go i h.0 h.3

-- what a constant or an operation that is spelled gives has a type, where the row of the operation holds
abbrev GivesType : UnitText → InstText → Type 0
GivesType u (const_text d) = IsSome (result_type (const_text d))
GivesType u (pure_text o os) = RowIs u (pure_text o os) → IsSome (result_type (pure_text o os))
GivesType u _ = Unit {0}

spelled-type : (u : UnitText) (i : InstText) (ts : List Lexeme) → SpellsInst i ts → GivesType u i
spelled-type u (const_text d) ts h = constant-given d ts h
spelled-type u (pure_text o os) ts h = λ r. operation-given o os ts h (gives u (pure_text o os) r)
spelled-type u _ ts h = tt

line-type : (u : UnitText) (l : LineText) → HasInstLine l → GivesType u l.inst
line-type u l h = of-line (GivesType u) (spelled-type u) l.result l.inst (lexemes_in (item_line (inst_item l))) h.1

-- ---- a step

no-value : (k : Knowledge) (p : Part) (n : List ℕ) → part_known k n ≡ Some p → value_known k n ≡ None
no-value k p n q = by (k n) q
  where
    by : (o : Option Known) → option_and_then as_part o ≡ Some p → option_and_then as_value o ≡ None
    by None e = absurd (none-some p e)
    by (Some (known_value t)) e = absurd (none-some p e)
    by (Some (known_cell t)) e = absurd (none-some p e)
    by (Some (known_part x)) e = refl

-- what is asked of a step from a part
abbrev StepIn : Op → OperandText → Part → Type 0
StepIn o x p = IsData p.ty × ((t : TypeTree) (r : Range) → option_and_then carried x.ty ≡ Some t → range_by p.ty o ≡ Some r → (r.len ≡ bit_count t) × (r.lo + r.len ≤ bit_count p.ty))

first-is : (x y : OperandText) (os : List OperandText) → os ≡ x ∷ [] → os ≡ y ∷ [] → x ≡ y
first-is x y os e f = cc

module _ (u : UnitText) (names : KnownNames) (l : LineText) (fine : LineFine u l) (printed : HasInstLine l) (e : EntityText) (f : ReadFine u names e) where
  of-step : (o : Op) (os : List OperandText) → Each (λ (x : OperandText). IsSome (e.known x.value)) os → (y : PartStep u e.known o os) → StepIn o y.operand y.whole
  of-step o os c y =
      let s : IsSome (e.known y.operand.value) = (subst (Each (λ (x : OperandText). IsSome (e.known x.value))) y.operands c).0 in
      let z = part-known u e.known f.typed y.operand.value y.whole.ty y.is s in
      let d : IsData y.whole.ty = subst IsData z.3 z.2 in (
        d,
        λ t r g h.
            let same : y.part.of ≡ t = same_Some y.part.of t (sym (ap (option_and_then carried) y.written) ∙ g) in
            let range : Range = record { lo = y.part.lo; len = bit_count y.part.of } in
            let is : range ≡ r = same_Some range r (sym (ap (option_and_then (λ s. range_of y.whole.ty (s ∷ []))) y.takes ∙ parts_have_ranges y.whole.ty y.step y.part y.leads) ∙ h) in
            let w = (step_part-within y.whole.ty y.step y.part d y.leads).inside in
            subst (λ (x : Range). (x.len ≡ bit_count t) × (x.lo + x.len ≤ bit_count y.whole.ty)) is (ap bit_count same, w),
      )

  step-in : (o : Op) (os : List OperandText) → l.inst ≡ pure_text o os → UsesKnown e (pure_text o os) → (x : OperandText) (p : Part) → os ≡ x ∷ [] → part_known e.known x.value ≡ Some p → StepIn o x p
  step-in o os q w x p qo qp = by (operation-known u e.known f.typed o os (subst (RowIs u) q fine.sound.row) (subst (HasPart u) q fine.sound.part) c)
    where
      c : Each (λ (x : OperandText). IsSome (e.known x.value)) os
      c = operands-of e.known o os w

      by : ((ts : List Tree) × (values_known e.known os ≡ Some ts)) ⊎ PartStep u e.known o os → StepIn o x p
      by (inl v) =
          let none : values_known e.known os ≡ None = ap (values_known e.known) qo ∙ ap (λ y. front y (Some [])) (no-value e.known p x.value qp) in
          absurd (none-some v.0 (sym none ∙ v.1))
      by (inr y) =
          let same : y.operand ≡ x = first-is y.operand x os y.operands qo in
          let whole : y.whole ≡ p = same_Some y.whole p (sym y.known ∙ ap (λ (z : OperandText). part_known e.known z.value) same ∙ qp) in
          subst (StepIn o x) whole (subst (λ (z : OperandText). StepIn o z y.whole) same (of-step o os c y))

  -- the terms of a line fit
  pub line-fits : Each (λ n. names n ≡ true) (values_named l.inst) → LineFits e.known l.inst
  line-fits h = by l.inst refl (line-kind u names l fine e f) (uses-known u names l fine e f h)
    where
      by : (i : InstText) → l.inst ≡ i → LineKind i → UsesKnown e i → LineFits e.known i
      by _ q (a_constant d) w =
          let t = some-of (result_type (const_text d)) (subst (GivesType u) q (line-type u l printed)) in
          let z = constants-fit 0 d (subst IsWrittenRight q fine.sound.written) _ t.0 refl t.1 in
          (constant-typed d t.0 z.0 z.1).0
      by _ q (an_operation o os) w =
          let row = subst (RowIs u) q fine.sound.row in
          let t = some-of (result_type (pure_text o os)) (subst (GivesType u) q (line-type u l printed) row) in (
            λ ts v. (operation-typed u e.known f.typed o os row (subst IsWrittenRight q fine.sound.written) (operands-typed u o os row (subst (HasPart u) q fine.sound.part)) ts v t.0 t.1).0,
            step-in o os q w,
          )
      by _ q (a_probe s) w = λ p g. let x = probe-of u names l fine e f s q w in subst (λ (y : Part). IsData y.ty) (same_Some x.part p (sym x.is ∙ g)) x.is_data
      by _ q (a_drive to value after cond) w = tt
      by _ q (a_register to gs) w = tt
