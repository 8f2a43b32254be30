-- What is looked up is known, and of its type; what an operation gives is typed.
use Rattle.std.proofs.Common.{◌≡◌, ◌⊎◌, inl, inr, ℕ, List, [], ◌∷◌, map, true, false, Option, Some, None, IsSome, is_some, refl, ap, sym, ◌∙◌, subst, arith}
use Rattle.std.specs.Option.{option_and_then, option_map}
use Rattle.std.proofs.lemmas.Bool.{false≢true}
use Rattle.std.proofs.lemmas.Option.{same_Some, none-some}
use Rattle.lh_types.specs.Types.{TypeTree, int_type, time_type, void_type, array_type, tuple_type, signal_type, pointer_type, row_of, IsData, AreData, bit_count}
use Rattle.lh_types.specs.Faults.{is_data}
use Rattle.lh_types.specs.Values.{Datum, int_value, time_value, array_value, tuple_value, data_row}
use Rattle.lh_types.specs.Fits.{FitsType, FitsRow}
use Rattle.lh_types.specs.ApplyTypes.{RowType}
use Rattle.lh_types.specs.Parts as Parts
use Rattle.lh_types.specs.Parts.{step_part}
use Rattle.lh_types.specs.Classes.{class_of}
use Rattle.lh_types.specs.declared.op.Op.{Op}
use Rattle.lh_types.specs.declared.op.Op.TheVariants as op
use Rattle.lh_types.specs.declared.part.Range.{Range}
use Rattle.lh_types.specs.declared.part.Step.{Step}
use Rattle.lh_types.specs.declared.part.Step.TheVariants.{Field, Slice}
use Rattle.lh_types.proofs.Limits.{bit_count-le}
use Rattle.lh_types.proofs.PartLemmas.{step_part-within}
use Rattle.lh_unit.specs.Contents.{OperandText, pure_text, UnitText}
use Rattle.lh_unit.specs.Typing.{value_type, is_value_type, operation_type, carried}
use Rattle.lh_unit.specs.Held.{Held, datum_held, cell_held, part_held, Env, as_datum, as_cell, as_part, datum_at, cell_at, part_at, data_at, parts_at, front}
use Rattle.lh_unit.specs.Effects.{step_of, stepped, signal_part, operated}
use Rattle.lh_unit.specs.Within.{Each}
use Rattle.lh_verify_laws.specs.Operands.{IsOf, IsLike, IsWritten, RowIs}
use Rattle.lh_verify_laws.specs.Parts.{StepLeadsTo, TakesPart, PutsPart, HasPart}
use Rattle.lh_eval.specs.Fitting.{IsTypeWithinLimits, FitsHeld, Fits}
use Rattle.lh_eval.specs.Sound.{HasOperands}
use Rattle.lh_eval.proofs.ValuesFit.{fits-line}
use Rattle.lh_eval.proofs.PartsRead.{of-signal, no-step, no-signal}
use Rattle.lh_eval.proofs.GivesFit.{value-type}
use Rattle.lh_eval_laws.proofs.OperandsFound.{some-of, operated-there}
use Rattle.lh_term.specs.Tree.{Tree, tree_row, operation_on}
use Rattle.lh_term.specs.Types as terms
use Rattle.lh_term.specs.Types.{type_of, types_of, IsTyped, AreTyped, TakesTypes}
use Rattle.lh_term.specs.Mean.{Valuation, IsFitting, mean}
use Rattle.lh_term.specs.Make.{make_operation}
use Rattle.lh_term.specs.declared.part.Part.{Part}
use Rattle.lh_term.proofs.Sound.{operation_sound}
use Rattle.lh_term.proofs.TermTypes.{value_is, value_typed, mean_fits, gives_is}
use Rattle.lh_region_def.specs.Known.{Known, known_value, known_cell, known_part, Knowledge, as_value, as_cell as as_known_cell, as_part as as_known_part, value_known, cell_known, part_known, values_known, parts_known}
use Rattle.lh_region_def.specs.Typed.{known_type, IsPartOf, IsTypedKnown, KnowsTyped, IsOfType}
use Rattle.lh_region_def.specs.Means.{reads, held_as, KnownIsHeld}
use Rattle.lh_region_def.proofs.PartReads.{reads-fit}

-- ---- what is held where something is known

-- an operand has a type
abbrev pub HasType : UnitText → OperandText → Type 0
HasType u o = (ty : TypeTree) × IsOf u ty o.value

-- a name has a type
abbrev pub IsOfSome : UnitText → List ℕ → Type 0
IsOfSome u n = (ty : TypeTree) × IsOf u ty n

module _ (u : UnitText) (v : Tree → Datum) (r : Part → Range) (k : Knowledge) (e : Env) (s : KnownIsHeld u v r k e) where
  pub datum-shown : (n : List ℕ) (ty : TypeTree) (t : Tree) → IsOf u ty n → value_known k n ≡ Some t → datum_at e n ≡ Some (v t)
  datum-shown n ty t i q = by (k n) refl q
    where
      by : (o : Option Known) → k n ≡ o → option_and_then as_value o ≡ Some t → datum_at e n ≡ Some (v t)
      by None p g = absurd (none-some t g)
      by (Some (known_value x)) p g = ap (option_and_then as_datum) (s n (known_value x) ty p i) ∙ ap (λ y. Some (v y)) (same_Some x t g)
      by (Some (known_cell x)) p g = absurd (none-some t g)
      by (Some (known_part x)) p g = absurd (none-some t g)

  pub cell-shown : (n : List ℕ) (ty : TypeTree) (t : Tree) → IsOf u ty n → cell_known k n ≡ Some t → cell_at e n ≡ Some (v t)
  cell-shown n ty t i q = by (k n) refl q
    where
      by : (o : Option Known) → k n ≡ o → option_and_then as_known_cell o ≡ Some t → cell_at e n ≡ Some (v t)
      by None p g = absurd (none-some t g)
      by (Some (known_cell x)) p g = ap (option_and_then as_cell) (s n (known_cell x) ty p i) ∙ ap (λ y. Some (v y)) (same_Some x t g)
      by (Some (known_value x)) p g = absurd (none-some t g)
      by (Some (known_part x)) p g = absurd (none-some t g)

  pub part-shown : (n : List ℕ) (ty : TypeTree) (p : Part) → IsOf u ty n → part_known k n ≡ Some p → part_at e n ≡ Some (r p)
  part-shown n ty t i q = by (k n) refl q
    where
      by : (o : Option Known) → k n ≡ o → option_and_then as_known_part o ≡ Some t → part_at e n ≡ Some (r t)
      by None p g = absurd (none-some t g)
      by (Some (known_part x)) p g = ap (option_and_then as_part) (s n (known_part x) ty p i) ∙ ap (λ y. Some (r y)) (same_Some x t g)
      by (Some (known_value x)) p g = absurd (none-some t g)
      by (Some (known_cell x)) p g = absurd (none-some t g)

  pub data-shown : (os : List OperandText) (ts : List Tree) → Each (HasType u) os → values_known k os ≡ Some ts → data_at e os ≡ Some (map v ts)
  data-shown [] ts c q = ap (λ xs. Some (map v xs)) (same_Some [] ts q)
  data-shown (o ∷ os) ts c q = by (λ xs. data-shown os xs c.1) (value_known k o.value) refl (values_known k os) refl q
    where
      by : ((xs : List Tree) → values_known k os ≡ Some xs → data_at e os ≡ Some (map v xs)) → (a : Option Tree) → value_known k o.value ≡ a → (b : Option (List Tree)) → values_known k os ≡ b
          → front a b ≡ Some ts → front (datum_at e o.value) (data_at e os) ≡ Some (map v ts)
      by go None p b g h = absurd (none-some ts h)
      by go (Some x) p None g h = absurd (none-some ts h)
      by go (Some x) p (Some xs) g h = ap (λ y. front y (data_at e os)) (datum-shown o.value c.0.0 x c.0.1 p) ∙ ap (front (Some (v x))) (go xs g) ∙ ap (λ ys. Some (map v ys)) (same_Some (x ∷ xs) ts h)

  pub parts-shown : (ns : List (List ℕ)) (ps : List Part) → Each (IsOfSome u) ns → parts_known k ns ≡ Some ps → parts_at e ns ≡ Some (map r ps)
  parts-shown [] ps c q = ap (λ xs. Some (map r xs)) (same_Some [] ps q)
  parts-shown (n ∷ ns) ps c q = by (λ xs. parts-shown ns xs c.1) (part_known k n) refl (parts_known k ns) refl q
    where
      by : ((xs : List Part) → parts_known k ns ≡ Some xs → parts_at e ns ≡ Some (map r xs)) → (a : Option Part) → part_known k n ≡ a → (b : Option (List Part)) → parts_known k ns ≡ b
          → front a b ≡ Some ps → front (part_at e n) (parts_at e ns) ≡ Some (map r ps)
      by go None p b g h = absurd (none-some ps h)
      by go (Some x) p None g h = absurd (none-some ps h)
      by go (Some x) p (Some xs) g h = ap (λ y. front y (parts_at e ns)) (part-shown n c.0.0 x c.0.1 p) ∙ ap (front (Some (r x))) (go xs g) ∙ ap (λ ys. Some (map r ys)) (same_Some (x ∷ xs) ps h)

-- ---- lookups

not-value : (t : TypeTree) (x y : TypeTree) → x ≡ y → is_value_type x ≡ false → is_value_type y ≡ true → ⊥
not-value t x y e a b = false≢true (sym a ∙ ap is_value_type e ∙ b)

pub term-type : (t : Tree) → IsTyped t → is_value_type (type_of t) ≡ true
term-type t h = by (type_of t) (value_typed t h)
  where
    by : (ty : TypeTree) → terms.IsValueType ty → is_value_type ty ≡ true
    by (int_type n) i = refl
    by (array_type n a) i = refl
    by (tuple_type ts) i = refl
    by time_type i = refl
    by void_type (inl d) = absurd d
    by void_type (inr q) = cc
    by (signal_type a) (inl d) = absurd d
    by (signal_type a) (inr q) = cc
    by (pointer_type a) (inl d) = absurd d
    by (pointer_type a) (inr q) = cc

pointed-is : (x y : TypeTree) → pointer_type x ≡ pointer_type y → x ≡ y
pointed-is x y e = cc

pub carried-is : (x y : TypeTree) → signal_type x ≡ signal_type y → x ≡ y
carried-is x y e = cc

module _ (u : UnitText) (k : Knowledge) (h : KnowsTyped u k) where
  pub value-known : (n : List ℕ) (ty : TypeTree) → IsOf u ty n → is_value_type ty ≡ true → IsSome (k n) → (t : Tree) × (value_known k n ≡ Some t) × IsOfType ty t
  value-known n ty o v s = let x = some-of (k n) s in by x.0 x.1 (h n x.0 ty x.1 o)
    where
      by : (x : Known) → k n ≡ Some x → IsTypedKnown u n x × (known_type x ≡ ty) → (t : Tree) × (value_known k n ≡ Some t) × IsOfType ty t
      by (known_value t) q f = (t, ap (option_and_then as_value) q, record { typed = f.0.0; type = f.1 })
      by (known_cell t) q f = absurd (not-value ty (pointer_type (type_of t)) ty f.1 refl v)
      by (known_part p) q f = absurd (not-value ty (signal_type p.ty) ty f.1 refl v)

  pub cell-known : (n : List ℕ) (ty : TypeTree) → IsOf u (pointer_type ty) n → IsSome (k n) → (t : Tree) × (cell_known k n ≡ Some t) × IsOfType ty t
  cell-known n ty o s = let x = some-of (k n) s in by x.0 x.1 (h n x.0 (pointer_type ty) x.1 o)
    where
      by : (x : Known) → k n ≡ Some x → IsTypedKnown u n x × (known_type x ≡ pointer_type ty) → (t : Tree) × (cell_known k n ≡ Some t) × IsOfType ty t
      by (known_value t) q f = absurd (not-value ty (pointer_type ty) (type_of t) (sym f.1) refl (term-type t f.0.0))
      by (known_cell t) q f = (t, ap (option_and_then as_known_cell) q, record { typed = f.0; type = pointed-is (type_of t) ty f.1 })
      by (known_part p) q f = absurd cc

  pub part-known : (n : List ℕ) (ty : TypeTree) → IsOf u (signal_type ty) n → IsSome (k n) → (p : Part) × (part_known k n ≡ Some p) × IsData p.ty × (p.ty ≡ ty) × IsPartOf u n p
  part-known n ty o s = let x = some-of (k n) s in by x.0 x.1 (h n x.0 (signal_type ty) x.1 o)
    where
      by : (x : Known) → k n ≡ Some x → IsTypedKnown u n x × (known_type x ≡ signal_type ty) → (p : Part) × (part_known k n ≡ Some p) × IsData p.ty × (p.ty ≡ ty) × IsPartOf u n p
      by (known_value t) q f = absurd (not-value ty (signal_type ty) (type_of t) (sym f.1) refl (term-type t f.0.0))
      by (known_cell t) q f = absurd cc
      by (known_part p) q f = (p, ap (option_and_then as_known_part) q, f.0.0, carried-is p.ty ty f.1, f.0.1)

-- ---- operations

-- some values that parts may have
abbrev zeros : Valuation
zeros = reads [] []

zeros-fit : IsFitting zeros
zeros-fit = reads-fit [] []

abbrev shown : Tree → Datum
shown t = mean zeros zeros t

abbrev placed : Part → Range
placed p = record { lo = 0; len = bit_count p.ty }

abbrev shows : Knowledge → Env
shows k n = option_map (held_as shown placed) (k n)

shows-shows : (u : UnitText) (k : Knowledge) → KnownIsHeld u shown placed k (shows k)
shows-shows u k n x t q v = ap (option_map (held_as shown placed)) q

either-value : (t : TypeTree) → terms.IsValueType t → IsTypeWithinLimits t
either-value t (inl d) = value-type t d
either-value t (inr q) = subst IsTypeWithinLimits (sym q) tt

shows-fit : (u : UnitText) (k : Knowledge) → KnowsTyped u k → Fits u 65536 (shows k)
shows-fit u k h n x t e o = by (k n) refl e
  where
    by : (y : Option Known) → k n ≡ y → option_map (held_as shown placed) y ≡ Some x → FitsHeld 65536 x t
    by None q g = absurd (none-some x g)
    by (Some (known_value a)) q g =
        let f = h n (known_value a) t q o in
        let z : FitsHeld 65536 (datum_held (shown a)) (type_of a) = (either-value (type_of a) (value_typed a f.0.0), mean_fits zeros zeros zeros-fit zeros-fit a f.0.0) in
        subst (λ (y : Held). FitsHeld 65536 y t) (same_Some (datum_held (shown a)) x g) (subst (FitsHeld 65536 (datum_held (shown a))) f.1 z)
    by (Some (known_cell a)) q g =
        let f = h n (known_cell a) t q o in
        let z : FitsHeld 65536 (cell_held (shown a)) (pointer_type (type_of a)) = (either-value (type_of a) (value_typed a f.0), mean_fits zeros zeros zeros-fit zeros-fit a f.0) in
        subst (λ (y : Held). FitsHeld 65536 y t) (same_Some (cell_held (shown a)) x g) (subst (FitsHeld 65536 (cell_held (shown a))) f.1 z)
    by (Some (known_part p)) q g =
        let f = h n (known_part p) t q o in
        let z : FitsHeld 65536 (part_held (placed p)) (signal_type p.ty) = (f.0.0, refl, (let w = bit_count-le p.ty f.0.0 in omega (arith, w))) in
        subst (λ (y : Held). FitsHeld 65536 y t) (same_Some (part_held (placed p)) x g) (subst (FitsHeld 65536 (part_held (placed p))) f.1 z)

time-no-data : (d : Datum) (t : TypeTree) → IsData t → FitsType d time_type → FitsType d t → ⊥
time-no-data (time_value d) (int_type n) i f g = g
time-no-data (time_value d) (array_type n t) i f g = g
time-no-data (time_value d) (tuple_type ts) i f g = g
time-no-data (time_value d) time_type i f g = i
time-no-data (time_value d) void_type i f g = i
time-no-data (time_value d) (signal_type t) i f g = i
time-no-data (time_value d) (pointer_type t) i f g = i
time-no-data (int_value n a) t i f g = f
time-no-data (array_value vs) t i f g = f
time-no-data (tuple_value vs) t i f g = f

-- a value has one type
one-type : (d : Datum) (s t : TypeTree) → IsData s → FitsType d s → terms.IsValueType t → FitsType d t → s ≡ t
one-type d s t i f (inl j) g = sym (value_is d s i f) ∙ value_is d t j g
one-type d s t i f (inr q) g = absurd (time-no-data d s i (subst (FitsType d) q g) f)

types-same : (ts : List Tree) (us : List TypeTree) → AreTyped (tree_row ts) → FitsRow (data_row (map shown ts)) (row_of us) → AreData (row_of us) → us ≡ types_of (tree_row ts)
types-same [] [] a f d = refl
types-same [] (u ∷ us) a f d = absurd f
types-same (t ∷ ts) [] a f d = absurd f
types-same (t ∷ ts) (u ∷ us) a f d =
    let p : u ≡ type_of t = one-type (shown t) u (type_of t) d.0 f.0 (value_typed t a.0) (mean_fits zeros zeros zeros-fit zeros-fit t a.0) in
    let q = types-same ts us a.1 f.1 d.1 in
    λ i. p i ∷ q i

alike-typed : (u : UnitText) (t : TypeTree) (os : List OperandText) → Each (IsLike u t) os → Each (HasType u) os
alike-typed u t [] a = tt
alike-typed u t (o ∷ os) a = ((t, a.0.0), alike-typed u t os a.1)

fields-typed : (u : UnitText) (os : List OperandText) → Each (λ (o : OperandText). (f : TypeTree) × (is_data f ≡ true) × IsWritten u f o) os → Each (HasType u) os
fields-typed u [] a = tt
fields-typed u (o ∷ os) a = ((a.0.0, a.0.2.1), fields-typed u os a.1)

shift-typed : (u : UnitText) (os : List OperandText) → RowIs u (pure_text op.Shl os) → Each (HasType u) os
shift-typed u (b ∷ h ∷ n ∷ []) r = let t = r.2 in ((r.0, t.1.0), ((r.0, t.2.0), ((int_type t.3.0, t.3.1), tt)))
shift-typed u [] r = absurd r.2
shift-typed u (b ∷ []) r = absurd r.2
shift-typed u (b ∷ h ∷ []) r = absurd r.2
shift-typed u (b ∷ h ∷ n ∷ m ∷ more) r = absurd r.2

select-typed : (u : UnitText) (os : List OperandText) → RowIs u (pure_text op.Mux os) → Each (HasType u) os
select-typed u (x ∷ s ∷ []) r = let t = r.2 in ((array_type t.1.0 r.0, t.1.1), ((int_type t.2.0, t.2.1), tt))
select-typed u [] r = absurd r.2
select-typed u (x ∷ []) r = absurd r.2
select-typed u (x ∷ s ∷ z ∷ more) r = absurd r.2

takes-typed : (u : UnitText) (s : Step) (os : List OperandText) → TakesPart u s os → Each (HasType u) os
takes-typed u s os p = subst (Each (HasType u)) (sym p.operands) ((p.whole, p.is), tt)

puts-typed : (u : UnitText) (s : Step) (os : List OperandText) → PutsPart u s os → Each (HasType u) os
puts-typed u s os p = subst (Each (HasType u)) (sym p.operands) ((p.whole, p.is), ((p.part.of, p.fits), tt))

-- so has each operand of an operation
pub operands-typed : (u : UnitText) (o : Op) (os : List OperandText) → RowIs u (pure_text o os) → HasPart u (pure_text o os) → Each (HasType u) os
operands-typed u (op.Extf k) os r p = takes-typed u (Field k) os p
operands-typed u (op.Exts at len) os r p = takes-typed u (Slice at len) os p
operands-typed u (op.Insf k) os r p = puts-typed u (Field k) os p
operands-typed u (op.Inss at len) os r p = puts-typed u (Slice at len) os p
operands-typed u op.Eq os r p = alike-typed u r.0 os r.2.1
operands-typed u op.Neq os r p = alike-typed u r.0 os r.2.1
operands-typed u op.Shl os r p = shift-typed u os r
operands-typed u op.Shr os r p = shift-typed u os r
operands-typed u op.Mux os r p = select-typed u os r
operands-typed u op.Array os r p = alike-typed u r.0 os r.2.1
operands-typed u (op.Repeat n) os r p = alike-typed u r.0 os r.2.1
operands-typed u op.Tuple os r p = fields-typed u os r.2
operands-typed u o os r p = alike-typed u r.0 os r.2.1

module _ (u : UnitText) (k : Knowledge) (h : KnowsTyped u k) where
  typed-values : (os : List OperandText) (ts : List Tree) → Each (HasType u) os → values_known k os ≡ Some ts → AreTyped (tree_row ts)
  typed-values [] ts c q = subst (λ xs. AreTyped (tree_row xs)) (same_Some [] ts q) tt
  typed-values (o ∷ os) ts c q = by (λ xs. typed-values os xs c.1) (k o.value) refl (values_known k os) refl q
    where
      by : ((xs : List Tree) → values_known k os ≡ Some xs → AreTyped (tree_row xs)) → (a : Option Known) → k o.value ≡ a → (b : Option (List Tree)) → values_known k os ≡ b
          → front (option_and_then as_value a) b ≡ Some ts → AreTyped (tree_row ts)
      by go None p b g e = absurd (none-some ts e)
      by go (Some (known_cell x)) p b g e = absurd (none-some ts e)
      by go (Some (known_part x)) p b g e = absurd (none-some ts e)
      by go (Some (known_value x)) p None g e = absurd (none-some ts e)
      by go (Some (known_value x)) p (Some xs) g e = subst (λ ys. AreTyped (tree_row ys)) (same_Some (x ∷ xs) ts e) ((h o.value (known_value x) c.0.0 p c.0.1).0.0, go xs g)

  -- an operation of values is typed, and of the type of its line
  pub operation-typed : (o : Op) (os : List OperandText) → RowIs u (pure_text o os) → HasOperands o os → Each (HasType u) os → (ts : List Tree) → values_known k os ≡ Some ts → (ty : TypeTree)
      → operation_type o os ≡ Some ty
      → IsTyped (operation_on o ts) × IsOfType ty (make_operation o ts)
  operation-typed o os row has c ts q ty r =
      let l = fits-line u 65536 (shows k) (shows-fit u k h) (class_of o) os row has (map shown ts) (data-shown u shown placed k (shows k) (shows-shows u k) os ts c q) in
      let a = typed-values os ts c q in
      let same = types-same ts l.types a l.values_fit l.data_types in
      let g = l.given ty r in
      let takes : TakesTypes o (types_of (tree_row ts)) = record {
        gives = l.gives;
        data_types = subst (λ us. AreData (row_of us)) same l.data_types;
        row = subst (λ us. RowType o us l.gives) same l.row;
        is_data = subst IsData (sym g.1) g.0;
      } in
      let typed : IsTyped (operation_on o ts) = (a, takes) in
      let s = operation_sound o ts typed in
      (typed, record { typed = s.typed; type = s.type ∙ gives_is o (types_of (tree_row ts)) takes ∙ g.1 })

-- ---- an operation, of values or of a signal

-- the part of a signal that a step leads to
pub record PartStep (u : UnitText) (k : Knowledge) (o : Op) (os : List OperandText) : Type 0 where
  pub operand : OperandText
  pub operands : os ≡ operand ∷ []
  pub step : Step
  pub takes : step_of o ≡ Some step
  pub whole : Part
  pub known : part_known k operand.value ≡ Some whole
  pub named : IsPartOf u operand.value whole
  pub is : IsOf u (signal_type whole.ty) operand.value
  pub part : Parts.Part
  pub leads : step_part whole.ty step ≡ Some part
  pub written : operand.ty ≡ Some (signal_type part.of)
  pub data_type : IsData part.of

all-known : (u : UnitText) (k : Knowledge) (os : List OperandText) → Each (λ (o : OperandText). IsSome (k o.value)) os → Each (λ (o : OperandText). IsSome (shows k o.value)) os
all-known u k [] h = tt
all-known u k (o ∷ os) h = (let x = some-of (k o.value) h.0 in ap is_some (ap (option_map (held_as shown placed)) x.1), all-known u k os h.1)

no-data : (k : Knowledge) (os : List OperandText) → values_known k os ≡ None → data_at (shows k) os ≡ None
no-data k [] q = absurd cc
no-data k (o ∷ os) q = by (no-data k os) (k o.value) (values_known k os) refl q
  where
    none : (x : Option Datum) → front x None ≡ None
    none None = refl
    none (Some x) = refl

    by : (values_known k os ≡ None → data_at (shows k) os ≡ None) → (a : Option Known) → (b : Option (List Tree)) → values_known k os ≡ b → front (option_and_then as_value a) b ≡ None
        → front (option_and_then as_datum (option_map (held_as shown placed) a)) (data_at (shows k) os) ≡ None
    by go None b g e = refl
    by go (Some (known_cell x)) b g e = refl
    by go (Some (known_part x)) b g e = refl
    by go (Some (known_value x)) None g e = ap (front (Some (shown x))) (go g)
    by go (Some (known_value x)) (Some xs) g e = absurd cc

module _ (u : UnitText) (k : Knowledge) (h : KnowsTyped u k) where
  step-known : (o : Op) (s : Step) (os : List OperandText) → step_of o ≡ Some s → TakesPart u s os → Each (λ (x : OperandText). IsSome (k x.value)) os → IsSome (signal_part u (shows k) o os)
      → PartStep u k o os
  step-known o s os so p c y = by p.whole p.is p.leads
    where
      held : IsSome (k p.operand.value)
      held = (subst (Each (λ (x : OperandText). IsSome (k x.value))) p.operands c).0

      none : (w : TypeTree) → IsOf u w p.operand.value → option_and_then carried (Some w) ≡ None → PartStep u k o os
      none w i q =
          let n : stepped (Some w) (part_at (shows k) p.operand.value) (step_of o) ≡ None = sym (no-signal (Some w) (part_at (shows k) p.operand.value) (step_of o) q) in
          let z : signal_part u (shows k) o os ≡ None = ap (signal_part u (shows k) o) p.operands ∙ ap (λ x. stepped x (part_at (shows k) p.operand.value) (step_of o)) i ∙ n in
          absurd (false≢true (ap is_some (sym z) ∙ y))

      by : (w : TypeTree) → IsOf u w p.operand.value → StepLeadsTo s w p.of → PartStep u k o os
      by (signal_type t) i l =
          let q = part-known u k h p.operand.value t i held in
          record {
            operand = p.operand;
            operands = p.operands;
            step = s;
            takes = so;
            whole = q.0;
            known = q.1;
            named = q.4;
            is = i ∙ ap (λ x. Some (signal_type x)) (sym q.3);
            part = l.0;
            leads = ap (λ x. step_part x s) q.3 ∙ l.1;
            written = p.written ∙ ap Some l.2;
            data_type = (step_part-within t s l.0 (subst IsData q.3 q.2) l.1).is_data;
          }
      by (int_type n) i l = none (int_type n) i refl
      by (array_type n t) i l = none (array_type n t) i refl
      by (tuple_type ts) i l = none (tuple_type ts) i refl
      by time_type i l = none time_type i refl
      by void_type i l = none void_type i refl
      by (pointer_type t) i l = none (pointer_type t) i refl

  no-takes : (o : Op) (os : List OperandText) → step_of o ≡ None → IsSome (signal_part u (shows k) o os) → ⊥
  no-takes o [] a g = false≢true g
  no-takes o (y ∷ []) a g = false≢true (ap is_some (no-step (value_type u y.value) (part_at (shows k) y.value) ∙ sym (ap (stepped (value_type u y.value) (part_at (shows k) y.value)) a)) ∙ g)
  no-takes o (y ∷ z ∷ more) a g = false≢true g

  signal-known : (o : Op) (os : List OperandText) → HasPart u (pure_text o os) → Each (λ (x : OperandText). IsSome (k x.value)) os → IsSome (signal_part u (shows k) o os) → PartStep u k o os
  signal-known (op.Extf n) os p c y = step-known (op.Extf n) (Field n) os refl p c y
  signal-known (op.Exts at len) os p c y = step-known (op.Exts at len) (Slice at len) os refl p c y
  signal-known o os p c y = absurd (no-takes o os refl y)

  -- An operation has values, or takes a part of a signal.
  pub operation-known : (o : Op) (os : List OperandText) → RowIs u (pure_text o os) → HasPart u (pure_text o os) → Each (λ (x : OperandText). IsSome (k x.value)) os
      → ((ts : List Tree) × (values_known k os ≡ Some ts)) ⊎ PartStep u k o os
  operation-known o os r p c = by (values_known k os) refl
    where
      there : IsSome (operated u (shows k) o os)
      there = operated-there u 65536 (shows k) (shows-fit u k h) o os r p (all-known u k os c)

      by : (x : Option (List Tree)) → values_known k os ≡ x → ((ts : List Tree) × (values_known k os ≡ Some ts)) ⊎ PartStep u k o os
      by (Some ts) q = inl (ts, q)
      by None q = inr (signal-known o os p c (subst IsSome (of-signal u (shows k) o os (no-data k os q)) there))
