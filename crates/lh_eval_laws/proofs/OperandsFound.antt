-- What the operands of a sound instruction of an entity are, where each is held and fits.
use Rattle.std.proofs.Common.{◌≡◌, ℕ, List, [], ◌∷◌, length, Bool, true, false, ◌||◌, Option, Some, None, IsSome, refl, ap, sym, ◌∙◌, subst}
use Rattle.std.specs.Option.{option_and_then, option_map}
use Rattle.std.proofs.lemmas.Option.{none-some, same_Some}
use Rattle.lh_time.specs.declared.Instant.{Instant}
use Rattle.lh_time.specs.declared.Delay.{Delay}
use Rattle.lh_types.specs.Types.{TypeTree, int_type, time_type, void_type, array_type, tuple_type, signal_type, pointer_type, IsData, bit_count}
use Rattle.lh_types.specs.Faults.{is_data}
use Rattle.lh_types.specs.Values.{Datum, int_value, time_value, array_value, tuple_value}
use Rattle.lh_types.specs.Fits.{FitsType}
use Rattle.lh_types.specs.Apply.{apply}
use Rattle.lh_types.specs.Parts.{Part, step_part, range_of}
use Rattle.lh_types.specs.Wish.{Wish}
use Rattle.lh_types.specs.declared.op.Op.{Op}
use Rattle.lh_types.specs.declared.op.Op.TheVariants as op
use Rattle.lh_types.specs.declared.part.Range.{Range}
use Rattle.lh_types.specs.declared.part.Step.{Step}
use Rattle.lh_types.specs.declared.part.Step.TheVariants.{Field, Slice}
use Rattle.lh_types.proofs.PartLemmas.{step_part-within}
use Rattle.lh_unit.specs.Contents.{OperandText, TriggerText, InstText, const_text, pure_text, prb_text, drv_text, reg_text, UnitText}
use Rattle.lh_unit.specs.Typing.{value_type, is_value_type, carried, or_else}
use Rattle.lh_unit.specs.TypingRows.{bit}
use Rattle.lh_unit.specs.Held.{Held, datum_held, cell_held, part_held, Env, as_datum, as_part, as_delay, as_test, front, datum_at, part_at, delay_at, test_at, data_at}
use Rattle.lh_unit.specs.Effects.{stepped, signal_part, step_of, operated, read_bits, probed, condition_at, drive_due, drive_when, driven}
use Rattle.lh_unit.specs.Pass.{Passed, delay_of}
use Rattle.lh_unit.specs.Within.{Each}
use Rattle.lh_verify_laws.specs.Operands.{IsOf, MayBeOf, IsLike, TriggerIs, RowIs}
use Rattle.lh_verify_laws.specs.Parts.{TakesPart, PutsPart, StepLeadsTo, HasPart}
use Rattle.lh_verify_laws.proofs.PartsLaw.{parts_have_ranges}
use Rattle.lh_eval.specs.Fitting.{IsTypeWithinLimits, FitsHeld, Fits}
use Rattle.lh_eval.specs.Sound.{HasOperands, IsWrittenRight}
use Rattle.lh_eval_laws.specs.Finding.{TriggerFinds, FindsInPass}

pub some-of : {A : Type 0} (o : Option A) → IsSome o → (x : A) × (o ≡ Some x)
some-of None h = absurd cc
some-of (Some x) h = (x, refl)

pub is-some : {A : Type 0} (o : Option A) (x : A) → o ≡ Some x → IsSome o
is-some o x e = subst (λ y. IsSome y) (sym e) refl

data-is-value : (t : TypeTree) → is_data t ≡ true → is_value_type t ≡ true
data-is-value t h = rw h refl

-- what fits a data type or time is a value of it
pub as-value : (w : ℕ) (h : Held) (t : TypeTree) → is_value_type t ≡ true → FitsHeld w h t → (d : Datum) × (as_datum h ≡ Some d) × FitsType d t × IsTypeWithinLimits t
as-value w (datum_held d) t v f = (d, refl, f.1, f.0)
as-value w (cell_held d) (pointer_type t) v f = absurd cc
as-value w (cell_held d) _ v f = absurd f
as-value w (part_held r) (signal_type t) v f = absurd cc
as-value w (part_held r) _ v f = absurd f

-- what fits a signal is a part
pub as-signal : (w : ℕ) (h : Held) (t : TypeTree) → FitsHeld w h (signal_type t) → (r : Range) × (as_part h ≡ Some r) × IsData t
as-signal w (datum_held d) t f = absurd f.0
as-signal w (cell_held d) t f = absurd f
as-signal w (part_held r) t f = (r, refl, f.0)

test-there : (d : Datum) (n : ℕ) → FitsType d (int_type n) → IsSome (as_test d)
test-there (int_value w b) n f = refl
test-there (time_value d) n f = absurd f
test-there (array_value vs) n f = absurd f
test-there (tuple_value vs) n f = absurd f

delay-there : (d : Datum) → FitsType d time_type → IsSome (as_delay d)
delay-there (time_value d) f = refl
delay-there (int_value w b) f = absurd f
delay-there (array_value vs) f = absurd f
delay-there (tuple_value vs) f = absurd f

pub carries-value : (t : TypeTree) → IsData t → is_value_type t ≡ true
carries-value (int_type n) d = refl
carries-value (array_type n t) d = refl
carries-value (tuple_type ts) d = refl
carries-value time_type d = absurd d
carries-value void_type d = absurd d
carries-value (signal_type t) d = absurd d
carries-value (pointer_type t) d = absurd d

pub value-data : (t : TypeTree) → is_data t ≡ true → IsTypeWithinLimits t → IsData t
value-data (int_type n) h v = v
value-data (array_type n t) h v = v
value-data (tuple_type ts) h v = v
value-data time_type h v = absurd cc
value-data void_type h v = v
value-data (signal_type t) h v = v
value-data (pointer_type t) h v = v

module _ (u : UnitText) (w : ℕ) (e : Env) (fits : Fits u w e) where
  -- a value of its type is there
  pub value-at : (n : List ℕ) (t : TypeTree) → IsOf u t n → is_value_type t ≡ true → IsSome (e n) → (d : Datum) × (datum_at e n ≡ Some d) × FitsType d t × IsTypeWithinLimits t
  value-at n t o v h =
      let x = some-of (e n) h in
      let d = as-value w x.0 t v (fits n x.0 t x.1 o) in
      (d.0, ap (option_and_then as_datum) x.1 ∙ d.1, d.2, d.3)

  -- a part of the signals is there
  pub part-at : (n : List ℕ) (t : TypeTree) → IsOf u (signal_type t) n → IsSome (e n) → (r : Range) × (part_at e n ≡ Some r) × IsData t
  part-at n t o h =
      let x = some-of (e n) h in
      let r = as-signal w x.0 t (fits n x.0 (signal_type t) x.1 o) in
      (r.0, ap (option_and_then as_part) x.1 ∙ r.1, r.2)

  pub test-at : (n : List ℕ) → IsOf u bit n → IsSome (e n) → IsSome (test_at e n)
  test-at n o h = let d = value-at n bit o refl h in subst (λ x. IsSome (option_and_then as_test x)) (sym d.1) (test-there d.0 1 d.2)

  pub delay-at : (n : List ℕ) → IsOf u time_type n → IsSome (e n) → (d : Delay) × (delay_at e n ≡ Some d)
  delay-at n o h =
      let d = value-at n time_type o refl h in
      let y = some-of (as_delay d.0) (delay-there d.0 d.2) in
      (y.0, ap (option_and_then as_delay) d.1 ∙ y.1)

  pub condition-at : (c : Option (List ℕ)) → MayBeOf u bit c → ((n : List ℕ) → c ≡ Some n → IsSome (e n)) → IsSome (condition_at e c)
  condition-at None o h = refl
  condition-at (Some n) o h = test-at n o (h n refl)

  pub delay-of : (c : Option (List ℕ)) → MayBeOf u time_type c → ((n : List ℕ) → c ≡ Some n → IsSome (e n)) → IsSome (delay_of e c)
  delay-of None o h = refl
  delay-of (Some n) o h = let d = delay-at n o (h n refl) in is-some (delay_at e n) d.0 d.1

  -- an operand is of a data type or time
  abbrev HasValue : OperandText → Type 0
  HasValue o = (t : TypeTree) × (is_value_type t ≡ true) × IsOf u t o.value

  abbrev IsHeld : OperandText → Type 0
  IsHeld o = IsSome (e o.value)

  values-at : (os : List OperandText) → Each HasValue os → Each IsHeld os → IsSome (data_at e os)
  values-at [] v h = refl
  values-at (o ∷ os) v h =
      let d = value-at o.value v.0.0 v.0.2 v.0.1 h.0 in
      let more = some-of (data_at e os) (values-at os v.1 h.1) in
      is-some (front (datum_at e o.value) (data_at e os)) (d.0 ∷ more.0) (ap (λ x. front x (data_at e os)) d.1 ∙ ap (front (Some d.0)) more.1)

  -- an operation gives a value where its operands are values
  operated-values : (o : Op) (os : List OperandText) → Each HasValue os → Each IsHeld os → IsSome (operated u e o os)
  operated-values o os v h =
      let ds = some-of (data_at e os) (values-at os v h) in
      is-some (operated u e o os) (datum_held (apply o ds.0)) (ap (λ x. or_else (option_map (λ y. datum_held (apply o y)) x) (signal_part u e o os)) ds.1)

  pub or-else-second : {A : Type 0} (a b : Option A) → IsSome b → IsSome (or_else a b)
  or-else-second None b h = h
  or-else-second (Some x) b h = refl

  -- `extf` and `exts`: a part of a signal, or of a value
  operated-part : (o : Op) (s : Step) → step_of o ≡ Some s → (os : List OperandText) → TakesPart u s os → Each IsHeld os → IsSome (operated u e o os)
  operated-part o s so os k h = at k.whole k.is k.leads
    where
      held : IsSome (e k.operand.value)
      held = (subst (Each IsHeld) k.operands h).0

      of-value : (t : TypeTree) → IsOf u t k.operand.value → is_value_type t ≡ true → IsSome (operated u e o os)
      of-value t i v = operated-values o os (subst (Each HasValue) (sym k.operands) ((t, v, i), tt)) h

      at : (t : TypeTree) → IsOf u t k.operand.value → StepLeadsTo s t k.of → IsSome (operated u e o os)
      at (signal_type t) i l =
          let r = part-at k.operand.value t i held in
          let q : range_of t (s ∷ []) ≡ Some _ = parts_have_ranges t s l.0 l.1 in
          let there : IsSome (stepped (value_type u k.operand.value) (part_at e k.operand.value) (step_of o)) = rw (i, r.1, so, q) refl in
          subst (λ xs. IsSome (operated u e o xs)) (sym k.operands) (or-else-second _ (signal_part u e o (k.operand ∷ [])) there)
      at (int_type n) i l = of-value (int_type n) i refl
      at (array_type n t) i l = of-value (array_type n t) i refl
      at (tuple_type ts) i l = of-value (tuple_type ts) i refl
      at time_type i l = absurd (none-some l.0 l.1)
      at void_type i l = absurd (none-some l.0 l.1)
      at (pointer_type t) i l = absurd (none-some l.0 l.1)

  -- `insf` and `inss`: a value and a new part of it
  operated-put : (o : Op) (s : Step) (os : List OperandText) → PutsPart u s os → Each IsHeld os → IsSome (operated u e o os)
  operated-put o s os k h =
      let held = subst (Each IsHeld) k.operands h in
      let v = value-at k.operand.value k.whole k.is (data-is-value k.whole k.carries) held.0 in
      let p = step_part-within k.whole s k.part (value-data k.whole k.carries v.3) k.leads in
      operated-values o os (subst (Each HasValue) (sym k.operands) ((k.whole, data-is-value k.whole k.carries, k.is), ((k.part.of, carries-value k.part.of p.is_data, k.fits), tt))) h

  alike-values : (t : TypeTree) → is_value_type t ≡ true → (os : List OperandText) → Each (IsLike u t) os → Each HasValue os
  alike-values t v [] a = tt
  alike-values t v (o ∷ os) a = ((t, v, a.0.0), alike-values t v os a.1)

  integers-value : (t : TypeTree) → (n : ℕ) × (t ≡ int_type n) → is_value_type t ≡ true
  integers-value t n = ap is_value_type n.1

  field-values : (os : List OperandText) → Each (λ (o : OperandText). (f : TypeTree) × (is_data f ≡ true) × ((o.ty ≡ Some f) × IsOf u f o.value)) os → Each HasValue os
  field-values [] a = tt
  field-values (o ∷ os) a = ((a.0.0, data-is-value a.0.0 a.0.1, a.0.2.1), field-values os a.1)

  shift-values : (o : Op) (os : List OperandText) → RowIs u (pure_text op.Shl os) → Each HasValue os
  shift-values o (b ∷ h ∷ n ∷ []) r =
      let t = r.2 in
      ((r.0, integers-value r.0 t.0, t.1.0), ((r.0, integers-value r.0 t.0, t.2.0), ((int_type t.3.0, refl, t.3.1), tt)))
  shift-values o [] r = absurd r.2
  shift-values o (b ∷ []) r = absurd r.2
  shift-values o (b ∷ h ∷ []) r = absurd r.2
  shift-values o (b ∷ h ∷ n ∷ m ∷ more) r = absurd r.2

  select-values : (os : List OperandText) → RowIs u (pure_text op.Mux os) → Each HasValue os
  select-values (x ∷ s ∷ []) r = let t = r.2 in ((array_type t.1.0 r.0, refl, t.1.1), ((int_type t.2.0, refl, t.2.1), tt))
  select-values [] r = absurd r.2
  select-values (x ∷ []) r = absurd r.2
  select-values (x ∷ s ∷ z ∷ more) r = absurd r.2

  -- every operation of a sound line gives something
  pub operated-there : (o : Op) (os : List OperandText) → RowIs u (pure_text o os) → HasPart u (pure_text o os) → Each IsHeld os → IsSome (operated u e o os)
  operated-there (op.Extf k) os r p h = operated-part (op.Extf k) (Field k) refl os p h
  operated-there (op.Exts at len) os r p h = operated-part (op.Exts at len) (Slice at len) refl os p h
  operated-there (op.Insf k) os r p h = operated-put (op.Insf k) (Field k) os p h
  operated-there (op.Inss at len) os r p h = operated-put (op.Inss at len) (Slice at len) os p h
  operated-there op.Eq os r p h = operated-values op.Eq os (alike-values r.0 (data-is-value r.0 r.2.0) os r.2.1) h
  operated-there op.Neq os r p h = operated-values op.Neq os (alike-values r.0 (data-is-value r.0 r.2.0) os r.2.1) h
  operated-there op.Shl os r p h = operated-values op.Shl os (shift-values op.Shl os r) h
  operated-there op.Shr os r p h = operated-values op.Shr os (shift-values op.Shr os r) h
  operated-there op.Mux os r p h = operated-values op.Mux os (select-values os r) h
  operated-there op.Array os r p h = operated-values op.Array os (alike-values r.0 (data-is-value r.0 r.2.0) os r.2.1) h
  operated-there (op.Repeat n) os r p h = operated-values (op.Repeat n) os (alike-values r.0 (data-is-value r.0 r.2.0) os r.2.1) h
  operated-there op.Tuple os r p h = operated-values op.Tuple os (field-values os r.2) h
  operated-there o os r p h = operated-values o os (alike-values r.0 (integers-value r.0 r.2.0) os r.2.1) h
