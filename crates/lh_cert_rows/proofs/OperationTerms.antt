-- What an operation of an entity gives: of values a term, of a signal its part.
use Rattle.std.proofs.Common.{◌≡◌, ◌⊎◌, inl, inr, ℕ, ◌+◌, List, [], ◌∷◌, Bool, true, false, Option, Some, None, IsSome, refl, ap, sym, ◌∙◌, arith}
use Rattle.std.specs.Bool.{if◌then◌else◌}
use Rattle.std.specs.Option.{option_and_then, option_map}
use Rattle.std.specs.Cmp.{first_so, second_so}
use Rattle.std.proofs.lemmas.Bool.{false≢true}
use Rattle.std.proofs.lemmas.Option.{same_Some, none-some}
use Rattle.lh_types.specs.Types.{TypeTree, signal_type, bit_count}
use Rattle.lh_types.specs.Apply.{apply}
use Rattle.lh_types.specs.Classes.{class_of}
use Rattle.lh_types.specs.declared.op.Op.{Op}
use Rattle.lh_types.specs.declared.op.Op.TheVariants as op
use Rattle.lh_types.specs.declared.op.OpClass.{OpClass}
use Rattle.lh_types.specs.declared.op.OpClass.TheVariants as class
use Rattle.lh_types.specs.declared.part.Range.{Range}
use Rattle.lh_unit.specs.Contents.{OperandText, InstText, pure_text, LineText, UnitText}
use Rattle.lh_unit.specs.Typing.{value_type, result_type, operation_type, class_type, first_type, carried, or_else, inst_giving}
use Rattle.lh_unit.specs.Held.{Held, datum_held, cell_held, part_held, Env, as_datum, as_part, data_at, part_at, front}
use Rattle.lh_unit.specs.Effects as effects
use Rattle.lh_unit.specs.Effects.{step_of}
use Rattle.lh_unit.specs.Hierarchy.{lines_of}
use Rattle.lh_unit.specs.Within.{Each}
use Rattle.lh_verify_laws.specs.Operands.{RowIs}
use Rattle.lh_verify_laws.specs.Parts.{HasPart}
use Rattle.lh_verify_laws.proofs.PartsLaw.{parts_have_ranges}
use Rattle.lh_eval.specs.Sound.{IsWrittenRight}
use Rattle.lh_eval.proofs.PartsRead.{of-signal}
use Rattle.lh_eval_laws.proofs.NamedOnce.{IsFirst, giving-lines}
use Rattle.lh_term.specs.Tree.{Tree, constant, operation_on, tree_row}
use Rattle.lh_term.specs.Types.{IsTyped}
use Rattle.lh_term.specs.Mean.{Valuation, mean, means}
use Rattle.lh_term.specs.Make.{is_constant, all_constant, value_in, values_in}
use Rattle.lh_term.specs.declared.part.Part.{Part}
use Rattle.lh_term.proofs.Sound.{operation_sound}
use Rattle.lh_region_def.specs.Known.{Known, known_value, known_cell, known_part, Knowledge, as_value, as_part as as_known_part, value_known, part_known, values_known}
use Rattle.lh_region_def.specs.Means.{range_in, lowest_bit}
use Rattle.lh_region_def.specs.Places.{stepped, part_stepped}
use Rattle.lh_region_def.specs.Regions.{is_constant as is_constant_line}
use Rattle.lh_region_def.specs.Typed.{KnowsTyped, IsConstantOf, of_step}
use Rattle.lh_region_def.proofs.KnowledgeChanges.{GivenTyped}
use Rattle.lh_region_def.proofs.LineEffects.{step-first}
use Rattle.lh_region_def.proofs.Operations.{operands-typed, operation-typed, operation-known, PartStep}
use Rattle.lh_region_def.proofs.Phis.{const-line}
use Rattle.lh_cert_terms.specs.Rebuilding.{read_operation}
use Rattle.lh_cert_terms.proofs.Reading.{read_sound}
use Rattle.lh_cert_rows.specs.Reading.{operated}
use Rattle.lh_cert_rows.proofs.EntityUnits.{LineFine}

-- ---- operations that build a value of others, whose type may lie past a limit

abbrev BuildsByClass : OpClass → Type 0
BuildsByClass class.Array = Unit {0}
BuildsByClass (class.Repeat n) = Unit {0}
BuildsByClass class.Tuple = Unit {0}
BuildsByClass _ = ⊥

abbrev pub Builds : Op → Type 0
Builds o = BuildsByClass (class_of o)

-- any other operation of the language has a type
typed-or-builds : (u : UnitText) (o : Op) (os : List OperandText) → RowIs u (pure_text o os) → ((t : TypeTree) × (operation_type o os ≡ Some t)) ⊎ Builds o
typed-or-builds u o os row = by (class_of o)
  where
    by : (c : OpClass) → ((t : TypeTree) × (class_type c os ≡ Some t)) ⊎ BuildsByClass c
    by class.Unary = inl (row.0, row.1)
    by class.Binary = inl (row.0, row.1)
    by class.Relation = inl (_, refl)
    by class.Equality = inl (_, refl)
    by class.Shift = inl (row.0, row.1)
    by class.Select = inl (row.0, row.1)
    by (class.TakePart s) = inl (row.0, row.1)
    by (class.PutPart s) = inl (row.0, row.1)
    by class.Array = inr tt
    by (class.Repeat n) = inr tt
    by class.Tuple = inr tt

constants-mean : (past now : Valuation) (ts : List Tree) → all_constant ts ≡ true → means past now (tree_row ts) ≡ values_in ts
constants-mean past now [] e = refl
constants-mean past now (t ∷ ts) e =
    let p = one t (first_so (is_constant t) (all_constant ts) e) in
    let q = constants-mean past now ts (second_so (is_constant t) (all_constant ts) e) in
    λ i. p i ∷ q i
  where
    one : (t : Tree) → is_constant t ≡ true → mean past now t ≡ value_in t
    one (constant v) e = refl
    one _ e = absurd (false≢true e)

-- they mean what they do, whatever the types are
pub built-means : (o : Op) → Builds o → (past now : Valuation) (ts : List Tree) → mean past now (read_operation o ts) ≡ apply o (means past now (tree_row ts))
built-means op.Array b past now ts = made (all_constant ts) refl
  where
    made : (c : Bool) → all_constant ts ≡ c → mean past now (if c then constant (apply op.Array (values_in ts)) else operation_on op.Array ts) ≡ apply op.Array (means past now (tree_row ts))
    made true e = ap (apply op.Array) (sym (constants-mean past now ts e))
    made false e = refl
built-means (op.Repeat n) b past now ts = made (all_constant ts) refl
  where
    made : (c : Bool) → all_constant ts ≡ c
        → mean past now (if c then constant (apply (op.Repeat n) (values_in ts)) else operation_on (op.Repeat n) ts) ≡ apply (op.Repeat n) (means past now (tree_row ts))
    made true e = ap (apply (op.Repeat n)) (sym (constants-mean past now ts e))
    made false e = refl
built-means op.Tuple b past now ts = made (all_constant ts) refl
  where
    made : (c : Bool) → all_constant ts ≡ c → mean past now (if c then constant (apply op.Tuple (values_in ts)) else operation_on op.Tuple ts) ≡ apply op.Tuple (means past now (tree_row ts))
    made true e = ap (apply op.Tuple) (sym (constants-mean past now ts e))
    made false e = refl
built-means _ b past now ts = absurd b

-- ---- what is known of an operation's result

-- the part of a part that a step leads to
abbrev pub inner_part : (u : UnitText) (k : Knowledge) (o : Op) (os : List OperandText) → PartStep u k o os → Part
inner_part u k o os p = record { arg = p.whole.arg; lo = p.whole.lo + p.part.lo; ty = p.part.of }

-- A term that is typed where its type is within the limits, or a part that a step leads to.
pub data Gives (u : UnitText) (k : Knowledge) (o : Op) (os : List OperandText) : Known → Type 0 where
  gives_term : (ts : List Tree) → values_known k os ≡ Some ts → IsTyped (operation_on o ts) ⊎ Builds o → Gives u k o os (known_value (read_operation o ts))
  gives_part : (p : PartStep u k o os) → Gives u k o os (known_part (inner_part u k o os p))

pub record OperationRead (u : UnitText) (k : Knowledge) (l : LineText) (o : Op) (os : List OperandText) : Type 0 where
  pub known : Known
  pub is : operated k o os ≡ Some known
  pub fits : GivenTyped u l.result known
  pub gives : Gives u k o os known

-- what another instruction gives is no constant
pub not-constant : (u : UnitText) (l : LineText) → IsFirst u.args (lines_of u.blocks) l → (j : InstText) → l.inst ≡ j → is_constant_line j ≡ false → (n : List ℕ) → l.result ≡ Some n → (x : Tree)
    → IsConstantOf u n x
not-constant u l f j e c n q x d i = absurd (false≢true (sym c ∙ ap is_constant_line (sym e ∙ const-line u l f n d q i)))

-- a part is no value
no-values : (k : Knowledge) (p : Part) (n : List ℕ) → part_known k n ≡ Some p → value_known k n ≡ None
no-values k p n q = by (k n) q
  where
    by : (o : Option Known) → option_and_then as_known_part o ≡ Some p → option_and_then as_value o ≡ None
    by None e = absurd (none-some p e)
    by (Some (known_value t)) e = absurd (none-some p e)
    by (Some (known_cell t)) e = absurd (none-some p e)
    by (Some (known_part x)) e = refl

module _ (u : UnitText) (k : Knowledge) (typed : KnowsTyped u k) (l : LineText) (fine : LineFine u l) (o : Op) (os : List OperandText) (e : l.inst ≡ pure_text o os)
    (row : RowIs u (pure_text o os)) (part : HasPart u (pure_text o os)) (written : IsWrittenRight (pure_text o os)) where
  line-type : (n : List ℕ) (t : TypeTree) → l.result ≡ Some n → value_type u n ≡ Some t → operation_type o os ≡ Some t
  line-type n t q v = sym (fine.sound.gives n q ∙ ap result_type e) ∙ v

  of-part : (p : PartStep u k o os) → OperationRead u k l o os
  of-part p =
      let x : Part = inner_part u k o os p in
      let none : values_known k os ≡ None = ap (values_known k) p.operands ∙ ap (λ y. front y (Some [])) (no-values k p.whole p.operand.value p.known) in
      let led : stepped (Some p.whole) (option_and_then carried p.operand.ty) (step_of o) ≡ Some (known_part x) =
      ap (λ y. stepped (Some p.whole) (option_and_then carried y) (step_of o)) p.written
      ∙ ap (stepped (Some p.whole) (Some p.part.of)) p.takes
      ∙ ap (option_map (λ y. known_part (record { arg = p.whole.arg; lo = p.whole.lo + y.lo; ty = p.part.of }))) (parts_have_ranges p.whole.ty p.step p.part p.leads) in
      let steps : part_stepped k o os ≡ Some (known_part x) = ap (part_stepped k o) p.operands ∙ ap (λ y. stepped y (option_and_then carried p.operand.ty) (step_of o)) p.known ∙ led in
      record {
        known = known_part x;
        is = ap (λ y. or_else (option_map (λ ts. known_value (read_operation o ts)) y) (part_stepped k o os)) none ∙ steps;
        fits = λ n t q v.
            let f = fine.first n q in
            let line : inst_giving n u.blocks ≡ Some (pure_text o (p.operand ∷ [])) = giving-lines n u.blocks ∙ f.1 ∙ ap Some (e ∙ ap (pure_text o) p.operands) in
            let ty : Some (signal_type p.part.of) ≡ Some t = sym p.written ∙ sym (ap first_type p.operands) ∙ sym (step-first o p.step os p.takes) ∙ line-type n t q v in
            ((p.data_type, of_step n o p.operand p.whole x f.0 line p.named led), same_Some (signal_type p.part.of) t ty);
        gives = gives_part p;
      }

  of-terms : (ts : List Tree) → values_known k os ≡ Some ts → OperationRead u k l o os
  of-terms ts q =
      let right = λ (t : TypeTree) (r : operation_type o os ≡ Some t). operation-typed u k typed o os row written (operands-typed u o os row part) ts q t r in
      let same = λ (t : TypeTree) (r : operation_type o os ≡ Some t). let z = right t r in read_sound o ts z.0 in
      record {
        known = known_value (read_operation o ts);
        is = ap (λ y. or_else (option_map (λ ts. known_value (read_operation o ts)) y) (part_stepped k o os)) q;
        fits = λ n t r v.
            let z = right t (line-type n t r v) in
            let m = read_sound o ts z.0 in
            ((m.typed, not-constant u l fine.first (pure_text o os) e refl n r (read_operation o ts)), m.type ∙ sym (operation_sound o ts z.0).type ∙ z.1.type);
        gives = gives_term ts q (by (typed-or-builds u o os row));
      }
    where
      by : ((t : TypeTree) × (operation_type o os ≡ Some t)) ⊎ Builds o → IsTyped (operation_on o ts) ⊎ Builds o
      by (inl x) = inl (operation-typed u k typed o os row written (operands-typed u o os row part) ts q x.0 x.1).0
      by (inr b) = inr b

  pub operation-read : Each (λ (x : OperandText). IsSome (k x.value)) os → OperationRead u k l o os
  operation-read c = by (operation-known u k typed o os row part c)
    where
      by : ((ts : List Tree) × (values_known k os ≡ Some ts)) ⊎ PartStep u k o os → OperationRead u k l o os
      by (inl x) = of-terms x.0 x.1
      by (inr p) = of-part p

-- ---- a part of what is held

no-datum : (y : Option Held) (z : Range) → option_and_then as_part y ≡ Some z → front (option_and_then as_datum y) (Some []) ≡ None
no-datum None z q = refl
no-datum (Some (part_held t)) z q = refl
no-datum (Some (datum_held t)) z q = absurd (none-some z q)
no-datum (Some (cell_held t)) z q = absurd (none-some z q)

further : (a b c : ℕ) → (a + b) + c ≡ a + (b + c)
further a b c = omega arith

-- where the bits of the whole are held, the operation gives those of the part
pub part-done : (u : UnitText) (k : Knowledge) (args : List Range) (e : Env) (o : Op) (os : List OperandText) (x : PartStep u k o os) → part_at e x.operand.value ≡ Some (range_in args x.whole)
    → effects.operated u e o os ≡ Some (part_held (range_in args (inner_part u k o os x)))
part-done u k args e o os x there =
    let none : data_at e os ≡ None = ap (data_at e) x.operands ∙ no-datum (e x.operand.value) (range_in args x.whole) there in
    of-signal u e o os none
    ∙ ap (effects.signal_part u e o) x.operands
    ∙ ap (λ y. effects.stepped y (part_at e x.operand.value) (step_of o)) x.is
    ∙ ap (λ y. effects.stepped (Some (signal_type x.whole.ty)) y (step_of o)) there
    ∙ ap (effects.stepped (Some (signal_type x.whole.ty)) (Some (range_in args x.whole))) x.takes
    ∙ ap (option_map (λ y. part_held (effects.within (range_in args x.whole) y))) (parts_have_ranges x.whole.ty x.step x.part x.leads)
    ∙ ap (λ y. Some (part_held (record { lo = y; len = bit_count x.part.of }))) (further (lowest_bit args x.whole.arg) x.whole.lo x.part.lo)
