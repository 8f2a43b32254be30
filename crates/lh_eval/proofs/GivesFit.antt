-- What an instruction gives fits the type of its result.
use Rattle.std.proofs.Common.{◌≡◌, ℕ, ◌+◌, ◌≤◌, List, [], ◌∷◌, length, drop, Bool, true, false, if◌then◌else◌, Option, Some, None, refl, ap, sym, ◌∙◌, subst, arith}
use Rattle.std.specs.Option.{option_and_then, option_map}
use Rattle.std.proofs.lemmas.List.{length-drop}
use Rattle.std.proofs.lemmas.Option.{same_Some, none-some}
use Rattle.lh_types.specs.Types.{TypeTree, int_type, time_type, signal_type, IsData, bit_count}
use Rattle.lh_types.specs.Values.{Datum, int_value, time_value}
use Rattle.lh_types.specs.Fits.{FitsType}
use Rattle.lh_types.specs.Bits.{value_from_bits}
use Rattle.lh_types.specs.Parts.{part_range}
use Rattle.lh_types.specs.Apply.{apply}
use Rattle.lh_types.specs.Classes.{class_of}
use Rattle.lh_types.specs.declared.op.Op.{Op}
use Rattle.lh_types.specs.declared.op.Op.TheVariants as op
use Rattle.lh_types.specs.declared.part.Range.{Range}
use Rattle.lh_types.specs.declared.part.Step.{Step}
use Rattle.lh_types.specs.declared.part.Step.TheVariants.{Field, Slice}
use Rattle.lh_bits.proofs.LawProofs.{value_gives_bits}
use Rattle.lh_types.proofs.PartLemmas.{step_part-within}
use Rattle.lh_ops.proofs.TypeLemmas.{results_fit_lem}
use Rattle.lh_unit.specs.Contents.{OperandText, pure_text, UnitText}
use Rattle.lh_unit_names.specs.Names.{same_name}
use Rattle.lh_unit.specs.Typing.{value_type, carried, operation_type, first_type}
use Rattle.lh_unit.specs.Held.{Held, datum_held, cell_held, part_held, Env, as_part, part_at, data_at, bits_in, as_cell}
use Rattle.lh_unit.specs.Effects.{step_of, within, stepped, signal_part, operated, read_bits}
use Rattle.lh_unit.specs.Hierarchy.{if_held}
use Rattle.lh_unit_names.proofs.NameLists.{same_name-is}
use Rattle.lh_verify_laws.specs.Operands.{IsOf, RowIs}
use Rattle.lh_verify_laws.specs.Parts.{StepLeadsTo, TakesPart, HasPart}
use Rattle.lh_verify_laws.proofs.PartsLaw.{parts_have_ranges}
use Rattle.lh_eval.specs.Fitting.{IsTypeWithinLimits, FitsHeld, Fits}
use Rattle.lh_eval.specs.Sound.{HasOperands}
use Rattle.lh_eval.specs.ResultsFit.{GivenFits, ConstantsFit, OperationsFit, ProbesFit, HeldStillFits}
use Rattle.lh_eval.proofs.TypesMade.{int-made}
use Rattle.lh_eval.proofs.ValuesFit.{fits-line}
use Rattle.lh_eval.proofs.PartsRead.{of-values, of-signal, read-is, no-step, no-signal}

-- a part that is held
pub part-held : (o : Option Held) (r : Range) → option_and_then as_part o ≡ Some r → o ≡ Some (part_held r)
part-held None r e = absurd (none-some r e)
part-held (Some (part_held s)) r e = ap (λ x. Some (part_held x)) (same_Some s r e)
part-held (Some (datum_held d)) r e = absurd (none-some r e)
part-held (Some (cell_held d)) r e = absurd (none-some r e)

-- a data type is one that a value may have
pub value-type : (t : TypeTree) → IsData t → IsTypeWithinLimits t
value-type time_type d = tt
value-type (int_type n) d = d
value-type t d = d

-- a value of a type fits it, whatever it is held as
as-given : (w : ℕ) (d : Datum) (x : Held) (t : TypeTree) → IsTypeWithinLimits t → FitsType d t → Some (datum_held d) ≡ Some x → FitsHeld w x t
as-given w d x t v f e = subst (λ (y : Held). FitsHeld w y t) (same_Some (datum_held d) x e) (v, f)

pub constants-fit : ConstantsFit
constants-fit w (int_value n b) h x t e q = let m = int-made n t q in as-given w (int_value n b) x t (value-type t m.0) (subst (FitsType (int_value n b)) m.1 (refl, h)) e
constants-fit w (time_value d) h x t e q = let m : time_type ≡ t = same_Some time_type t q in as-given w (time_value d) x t (subst IsTypeWithinLimits m tt) (subst (FitsType (time_value d)) m tt) e
constants-fit w _ h x t e q = absurd (none-some t q)

module _ (u : UnitText) (w : ℕ) (e : Env) (f : Fits u w e) where
  pub part-fits : (n : List ℕ) (r : Range) (t : TypeTree) → part_at e n ≡ Some r → IsOf u (signal_type t) n → IsData t × (r.len ≡ bit_count t) × (r.lo + r.len ≤ w)
  part-fits n r t p q = f n (part_held r) (signal_type t) (part-held (e n) r p) q

  -- an operation on values
  values-fit : (o : Op) (os : List OperandText) → RowIs u (pure_text o os) → HasOperands o os → (ds : List Datum) → data_at e os ≡ Some ds
      → GivenFits w (Some (datum_held (apply o ds))) (operation_type o os)
  values-fit o os row has ds p x t g q =
      let l = fits-line u w e f (class_of o) os row has ds p in
      let k = l.given t q in
      as-given w (apply o ds) x t (value-type t k.0) (subst (FitsType (apply o ds)) k.1 (results_fit_lem o ds l.types l.gives l.data_types l.values_fit l.row)) g

  -- a step into a part of a signal
  stepped-fits : (s : Step) (x : OperandText) (whole of : TypeTree) → IsOf u whole x.value → StepLeadsTo s whole of → GivenFits w (stepped (value_type u x.value) (part_at e x.value) (Some s)) (Some of)
  stepped-fits s x (signal_type b) of is leads h t g q = by (part_at e x.value) refl (sym (ap (λ (o : Option TypeTree). stepped o (part_at e x.value) (Some s)) is) ∙ g)
    where
      by : (o : Option Range) → part_at e x.value ≡ o → stepped (Some (signal_type b)) o (Some s) ≡ Some h → FitsHeld w h t
      by None p c = absurd (none-some h c)
      by (Some r) p c =
          let k = part-fits x.value r b p is in
          let m = step_part-within b s leads.0 k.0 leads.1 in
          let held : part_held (within r (part_range leads.0)) ≡ h = same_Some _ _ (sym (ap (option_map (λ (y : Range). part_held (within r y))) (parts_have_ranges b s leads.0 leads.1)) ∙ c) in
          let ty : signal_type leads.0.of ≡ t = sym leads.2 ∙ same_Some of t q in
          let fits : FitsHeld w (part_held (within r (part_range leads.0))) (signal_type leads.0.of) = (m.is_data, refl, omega (arith, m.inside, k.1, k.2)) in
          subst (λ (y : Held). FitsHeld w y t) held (subst (FitsHeld w (part_held (within r (part_range leads.0)))) ty fits)
  stepped-fits s x whole of is leads h t g q = absurd
      (none-some h (no-signal (Some whole) (part_at e x.value) (Some s) refl ∙ sym (ap (λ (o : Option TypeTree). stepped o (part_at e x.value) (Some s)) is) ∙ g))

  -- `extf` or `exts` of a signal
  takes-fits : (o : Op) (s : Step) (os : List OperandText) → step_of o ≡ Some s → operation_type o os ≡ first_type os → TakesPart u s os → GivenFits w (signal_part u e o os) (operation_type o os)
  takes-fits o s os a b p h t g q =
      let of : Some p.of ≡ Some t = sym (ap first_type p.operands ∙ p.written) ∙ sym b ∙ q in
      let there : stepped (value_type u p.operand.value) (part_at e p.operand.value) (Some s) ≡ Some h =
      sym (ap (signal_part u e o) p.operands ∙ ap (stepped (value_type u p.operand.value) (part_at e p.operand.value)) a) ∙ g in
      stepped-fits s p.operand p.whole p.of p.is p.leads h t there of

  -- no other operation is of a signal
  no-takes : (o : Op) (os : List OperandText) (x : Held) → step_of o ≡ None → signal_part u e o os ≡ Some x → ⊥
  no-takes o [] x a g = none-some x g
  no-takes o (y ∷ []) x a g = none-some x (no-step (value_type u y.value) (part_at e y.value) ∙ sym (ap (stepped (value_type u y.value) (part_at e y.value)) a) ∙ g)
  no-takes o (y ∷ z ∷ more) x a g = none-some x g

  signal-fits : (o : Op) (os : List OperandText) → HasPart u (pure_text o os) → GivenFits w (signal_part u e o os) (operation_type o os)
  signal-fits (op.Extf k) os p = takes-fits (op.Extf k) (Field k) os refl refl p
  signal-fits (op.Exts at len) os p = takes-fits (op.Exts at len) (Slice at len) os refl refl p
  signal-fits o os p = λ h t g q. absurd (no-takes o os h refl g)

  pub operation-fits : (o : Op) (os : List OperandText) → RowIs u (pure_text o os) → HasPart u (pure_text o os) → HasOperands o os → GivenFits w (operated u e o os) (operation_type o os)
  operation-fits o os row part has h t g q = by (data_at e os) refl
    where
      by : (ds : Option (List Datum)) → data_at e os ≡ ds → FitsHeld w h t
      by (Some ds) p = values-fit o os row has ds p h t (sym (of-values u e o os ds p) ∙ g) q
      by None p = signal-fits o os part h t (sym (of-signal u e o os p) ∙ g) q

  -- what is held under another name is as before
  held-after : (result : Option (List ℕ)) (h : Option Held) → ((n : List ℕ) → result ≡ Some n → GivenFits w h (value_type u n)) → Fits u w (if_held e result h)
  held-after result None go m x t p q = f m x t p q
  held-after None (Some h) go m x t p q = f m x t p q
  held-after (Some n) (Some h) go m x t p q = by (same_name n m) refl p
    where
      by : (b : Bool) → same_name n m ≡ b → (if b then Some h else e m) ≡ Some x → FitsHeld w x t
      by true c p = let name : n ≡ m = same_name-is n m c in go n refl x t p (ap (value_type u) name ∙ q)
      by false c p = f m x t p q

pub operations-fit : OperationsFit
operations-fit u w e o os f row part has = operation-fits u w e f o os row part has

pub probes-fit : ProbesFit
probes-fit u now e s f row h t g q = by (part_at e s.value) refl (sym (ap (λ (y : Option TypeTree). read_bits now y (part_at e s.value)) q) ∙ g)
  where
    by : (o : Option Range) → part_at e s.value ≡ o → read_bits now (Some t) o ≡ Some h → FitsHeld (length now) h t
    by None p c = absurd (none-some h c)
    by (Some r) p c =
        let carries : row.0 ≡ t = same_Some row.0 t (sym (ap (option_and_then carried) row.1.0) ∙ q) in
        let k = subst (λ (y : TypeTree). IsData y × (r.len ≡ bit_count y) × (r.lo + r.len ≤ length now)) carries (part-fits u (length now) e f s.value r row.0 p row.1.1) in
        let enough : bit_count t ≤ length (drop r.lo now) = omega (arith, length-drop r.lo now, k.1, k.2) in
        let fits : FitsType (value_from_bits t (bits_in now r)) t = subst (λ (d : Datum). FitsType d t) (read-is t r now k.0 k.1 k.2) (value_gives_bits t (drop r.lo now) k.0 enough).0 in
        as-given (length now) (value_from_bits t (bits_in now r)) h t (value-type t k.0) fits c

pub held-still-fits : HeldStillFits
held-still-fits u w e result h f go = held-after u w e f result h go

pub cell-held : (o : Option Held) (d : Datum) → option_and_then as_cell o ≡ Some d → o ≡ Some (cell_held d)
cell-held None d e = absurd (none-some d e)
cell-held (Some (cell_held x)) d e = ap (λ y. Some (cell_held y)) (same_Some x d e)
cell-held (Some (datum_held x)) d e = absurd (none-some d e)
cell-held (Some _) d e = absurd (none-some d e)
