-- The values of the operands of an operation fit its row.
use Rattle.std.proofs.Common.{◌≡◌, ℕ, ◌<◌, zero, suc, List, [], ◌∷◌, length, replicate, true, Option, Some, None, refl, ap, sym, ◌∙◌, subst, arith, Bool, false}
use Rattle.std.specs.Option.{option_and_then, option_map}
use Rattle.std.proofs.lemmas.List.{length-replicate}
use Rattle.std.proofs.lemmas.Option.{same_Some}
use Rattle.lh_types.specs.Types.{TypeTree, int_type, time_type, array_type, tuple_type, signal_type, row_of, IsData, AreData}
use Rattle.lh_types.specs.Faults.{is_data}
use Rattle.lh_types.specs.Values.{Datum, data_row}
use Rattle.lh_types.specs.Fits.{FitsType, FitsRow}
use Rattle.lh_types.specs.Parts.{Part, part_beyond, part_of, step_part}
use Rattle.lh_types.specs.ApplyTypes.{FitsOp, ClassType, PartHasType}
use Rattle.lh_types.specs.Classes.{class_of}
use Rattle.lh_types.specs.declared.op.Op.{Op}
use Rattle.lh_types.specs.declared.op.OpClass.{OpClass}
use Rattle.lh_types.specs.declared.op.OpClass.TheVariants as class
use Rattle.lh_types.specs.declared.part.Step.{Step}
use Rattle.lh_types.specs.declared.part.Step.TheVariants.{Field, Slice}
use Rattle.lh_types.specs.Apply.{bit_value}
use Rattle.lh_bits.proofs.LawProofs.{parts_are_within}
use Rattle.lh_unit.specs.Contents.{OperandText, pure_text, UnitText}
use Rattle.lh_unit.specs.Typing.{first_type, with_type, operand_types, array_made, tuple_made, class_type}
use Rattle.lh_unit.specs.TypingRows.{class_row, shifts, selects, takes_part, puts_part, part_type}
use Rattle.lh_unit.specs.Held.{Held, datum_held, Env, as_datum, datum_at, data_at, front, as_test}
use Rattle.lh_unit.specs.Within.{Each}
use Rattle.lh_verify_laws.specs.Operands.{IsOf, IsLike, IsWritten, OperationIs, RowIs}
use Rattle.lh_eval.specs.Fitting.{IsTypeWithinLimits, Fits}
use Rattle.lh_eval.specs.Sound.{ClassHasOperands, HasOperands, OperandsFitRows}
use Rattle.lh_eval.proofs.TypesMade.{array-made, tuple-made}

-- a value that is held
pub datum-held : (o : Option Held) (d : Datum) → option_and_then as_datum o ≡ Some d → o ≡ Some (datum_held d)
datum-held None d e = cc
datum-held (Some (datum_held s)) d e = let p : s ≡ d = cc in ap (λ x. Some (datum_held x)) p
datum-held (Some _) d e = cc

NoTime : TypeTree → Type 0
NoTime t = t ≡ time_type → ⊥

is-data : (t : TypeTree) → NoTime t → IsTypeWithinLimits t → IsData t
unfolding NoTime
is-data time_type n v = absurd (n refl)
is-data _ n v = v

no-time : (t : TypeTree) → is_data t ≡ true → NoTime t
unfolding NoTime
no-time time_type d = absurd cc
no-time _ d = λ p. cc

-- a front item and the others
front-some : (x : Option Datum) (y : Option (List Datum)) (ds : List Datum) → front x y ≡ Some ds → (d : Datum) × (more : List Datum) × (x ≡ Some d) × (y ≡ Some more) × (d ∷ more ≡ ds)
front-some None y ds e = absurd cc
front-some (Some d) None ds e = absurd cc
front-some (Some d) (Some more) ds e = let p : d ∷ more ≡ ds = cc in (d, more, refl, refl, p)

part-is-data : (t : TypeTree) (s : Step) (p : TypeTree) → IsData t → option_map (λ (q : Part). q.of) (step_part t s) ≡ Some p → IsData p
part-is-data t s p d e = by (step_part t s) refl e
  where
    by : (o : Option Part) → step_part t s ≡ o → option_map (λ (q : Part). q.of) o ≡ Some p → IsData p
    by None q g = absurd cc
    by (Some x) q g =
        let k : part_of t (s ∷ []) ≡ Some (part_beyond x.lo (record { lo = 0; of = x.of })) = ap (option_and_then (λ (y : Part). option_map (part_beyond y.lo) (part_of y.of []))) q in
        let h : x.of ≡ p = cc in
        subst IsData h (parts_are_within t (s ∷ []) (part_beyond x.lo (record { lo = 0; of = x.of })) d k).0

-- a part of what is no signal
data-part : (t : TypeTree) (s : Step) (p : TypeTree) → is_data t ≡ true → part_type s t ≡ Some p → PartHasType t s p
data-part (signal_type t) s p d e = absurd cc
data-part _ s p d e = e

-- the type of an operation's line is a data type, and the one that its row gives
abbrev pub GivesType : OpClass → List OperandText → TypeTree → Type 0
GivesType o os r = (t : TypeTree) → class_type o os ≡ Some t → IsData t × (r ≡ t)

-- operands that fit the row of their class, which gives the type of the line
pub record FitsLine (o : OpClass) (os : List OperandText) (ds : List Datum) : Type 0 where
  pub types : List TypeTree
  pub gives : TypeTree
  pub data_types : AreData (row_of types)
  pub values_fit : FitsRow (data_row ds) (row_of types)
  pub row : ClassType o types gives
  pub given : GivesType o os gives

-- an operation that gives the type that is written first
gives-first : (o : OpClass) (os : List OperandText) (r t : TypeTree) → class_type o os ≡ first_type os → first_type os ≡ Some t → t ≡ r → IsData r → GivesType o os r
gives-first o os r t e f g d s q = let h : r ≡ s = same_Some _ _ (ap Some (sym g) ∙ sym f ∙ sym e ∙ q) in (subst IsData h d, h)

-- one that gives a bit
gives-bit : (o : OpClass) (os : List OperandText) → class_type o os ≡ Some (int_type 1) → GivesType o os (int_type 1)
gives-bit o os e t q = let h : int_type 1 ≡ t = same_Some _ _ (sym e ∙ q) in (subst IsData h (omega arith, omega arith), h)

-- one that gives an array of n elements of the type that is written first
gives-array : (n : ℕ) (o : OpClass) (os : List OperandText) (t : TypeTree) → class_type o os ≡ option_and_then (array_made n) (first_type os) → first_type os ≡ Some t → IsData t
    → GivesType o os (array_type n t)
gives-array n o os t e f d s q = array-made n t s d (sym (ap (option_and_then (array_made n)) f) ∙ sym e ∙ q)

-- a row of one type is of data types only where the type is one
first-data : (n : ℕ) (t : TypeTree) → 0 < n → AreData (row_of (replicate n t)) → IsData t
first-data zero t h d = absurd (omega (arith, h))
first-data (suc n) t h d = d.0

module _ (u : UnitText) (w : ℕ) (e : Env) (f : Fits u w e) where
  Matches : List OperandText → List TypeTree → Type 0
  Matches [] [] = Unit {0}
  Matches (o ∷ os) (t ∷ ts) = (IsOf u t o.value × NoTime t) × Matches os ts
  Matches _ _ = ⊥

  datum-fits : (n : List ℕ) (d : Datum) (t : TypeTree) → datum_at e n ≡ Some d → IsOf u t n → IsTypeWithinLimits t × FitsType d t
  datum-fits n d t p q = f n _ t (datum-held (e n) d p) q

  fit-row : (os : List OperandText) (ts : List TypeTree) (ds : List Datum) → Matches os ts → data_at e os ≡ Some ds → FitsRow (data_row ds) (row_of ts) × AreData (row_of ts)
  unfolding Matches
  fit-row [] [] ds m p = let q : [] ≡ ds = cc in (subst (λ (x : List Datum). FitsRow (data_row x) (row_of [])) q tt, tt)
  fit-row [] (t ∷ ts) ds m p = absurd m
  fit-row (o ∷ os) [] ds m p = absurd m
  fit-row (o ∷ os) (t ∷ ts) ds m p =
      let x = front-some (datum_at e o.value) (data_at e os) ds p in
      let k = datum-fits o.value x.0 t x.2 m.0.0 in
      let more = fit-row os ts x.1 m.1 x.3 in
      (subst (λ (y : List Datum). FitsRow (data_row y) (row_of (t ∷ ts))) x.4 (k.1, more.0), (is-data t m.0.1 k.0, more.1))

  made : (o : OpClass) (os : List OperandText) (ts : List TypeTree) (r : TypeTree) (ds : List Datum) → Matches os ts → data_at e os ≡ Some ds → ClassType o ts r
      → (AreData (row_of ts) → GivesType o os r) → FitsLine o os ds
  made o os ts r ds m p k g = let x = fit-row os ts ds m p in record { types = ts; gives = r; data_types = x.1; values_fit = x.0; row = k; given = g x.1 }

  int-no-time : (n : ℕ) → NoTime (int_type n)
  unfolding NoTime
  int-no-time n p = cc

  array-no-time : (n : ℕ) (t : TypeTree) → NoTime (array_type n t)
  unfolding NoTime
  array-no-time n t p = cc

  one : (os : List OperandText) (x : OperandText) (t : TypeTree) → NoTime t → os ≡ x ∷ [] → Each (IsLike u t) os → Matches os (t ∷ [])
  unfolding Matches
  one os x t n e l = let k = subst (Each (IsLike u t)) e l in subst (λ (z : List OperandText). Matches z (t ∷ [])) (sym e) ((k.0.0, n), tt)

  two : (os : List OperandText) (x y : OperandText) (t : TypeTree) → NoTime t → os ≡ x ∷ y ∷ [] → Each (IsLike u t) os → Matches os (t ∷ t ∷ [])
  unfolding Matches
  two os x y t n e l = let k = subst (Each (IsLike u t)) e l in subst (λ (z : List OperandText). Matches z (t ∷ t ∷ [])) (sym e) ((k.0.0, n), ((k.1.0.0, n), tt))

  alike-all : (os : List OperandText) (t : TypeTree) → NoTime t → Each (IsLike u t) os → Matches os (replicate (length os) t)
  unfolding Matches
  alike-all [] t n l = tt
  alike-all (o ∷ os) t n l = ((l.0.0, n), alike-all os t n l.1)

  int-like : (os : List OperandText) (t : TypeTree) (n : ℕ) → t ≡ int_type n → Each (IsLike u t) os → Each (IsLike u (int_type n)) os
  int-like os t n p l = subst (λ (x : TypeTree). Each (IsLike u x) os) p l

  some-first : (os : List OperandText) (t : TypeTree) → first_type os ≡ Some t → 0 < length os
  some-first [] t p = absurd cc
  some-first (o ∷ os) t p = omega arith

  fields-match : (os : List OperandText) → Each (λ (o : OperandText). (t : TypeTree) × (is_data t ≡ true) × IsWritten u t o) os → (ts : List TypeTree) × (length ts ≡ length os) × Matches os ts
      × (operand_types os ≡ Some (row_of ts))
  unfolding Matches
  fields-match [] l = ([], refl, tt, refl)
  fields-match (o ∷ os) l =
      let r = fields-match os l.1 in
      (l.0.0 ∷ r.0, ap suc r.1, ((l.0.2.1, no-time l.0.0 l.0.1), r.2), ap (λ x. with_type x (operand_types os)) l.0.2.0 ∙ ap (with_type (Some l.0.0)) r.3)

  -- the row of an operation on two integers, and of one that compares two values
  Ints : List OperandText → TypeTree → Type 0
  Ints os t = ((n : ℕ) × (t ≡ int_type n)) × Each (IsLike u t) os

  Two : List OperandText → Type 0
  Two os = (x y : OperandText) × (os ≡ x ∷ y ∷ [])

  two-ints : (os : List OperandText) (t : TypeTree) → Ints os t → Two os → (n : ℕ) × (t ≡ int_type n) × Matches os (int_type n ∷ int_type n ∷ [])
  unfolding Ints Two
  two-ints os t l h = (l.0.0, l.0.1, two os h.0 h.1 (int_type l.0.0) (int-no-time l.0.0) h.2 (int-like os t l.0.0 l.0.1 l.1))

  twos : (o : OpClass) (os : List OperandText) (t : TypeTree) (ds : List Datum) → class_type o os ≡ first_type os → first_type os ≡ Some t → Ints os t → Two os → data_at e os ≡ Some ds
      → ((n : ℕ) → ClassType o (int_type n ∷ int_type n ∷ []) (int_type n)) → FitsLine o os ds
  twos o os t ds a b l h p k = let x = two-ints os t l h in made o os (int_type x.0 ∷ int_type x.0 ∷ []) (int_type x.0) ds x.2 p (k x.0) (λ d. gives-first o os (int_type x.0) t a b x.1 d.0)

  compares : (o : OpClass) (os : List OperandText) (t : TypeTree) (ds : List Datum) → class_type o os ≡ Some (int_type 1) → Ints os t → Two os → data_at e os ≡ Some ds
      → ((n : ℕ) → ClassType o (int_type n ∷ int_type n ∷ []) (int_type 1)) → FitsLine o os ds
  compares o os t ds a l h p k = let x = two-ints os t l h in made o os (int_type x.0 ∷ int_type x.0 ∷ []) (int_type 1) ds x.2 p (k x.0) (λ d. gives-bit o os a)

  unary : (o : OpClass) (os : List OperandText) (t : TypeTree) (ds : List Datum) → class_type o os ≡ first_type os → first_type os ≡ Some t → Ints os t → (x : OperandText) → os ≡ x ∷ []
      → data_at e os ≡ Some ds → ((n : ℕ) → ClassType o (int_type n ∷ []) (int_type n)) → FitsLine o os ds
  unfolding Ints
  unary o os t ds a b l x h p k = made o os (int_type l.0.0 ∷ []) (int_type l.0.0) ds (one os x (int_type l.0.0) (int-no-time l.0.0) h (int-like os t l.0.0 l.0.1 l.1)) p (k l.0.0)
      (λ d. gives-first o os (int_type l.0.0) t a b l.0.1 d.0)

  equals : (o : OpClass) (os : List OperandText) (t : TypeTree) (ds : List Datum) → class_type o os ≡ Some (int_type 1) → (is_data t ≡ true) × Each (IsLike u t) os → Two os → data_at e os ≡ Some ds
      → ClassType o (t ∷ t ∷ []) (int_type 1) → FitsLine o os ds
  unfolding Two
  equals o os t ds a l h p k = made o os (t ∷ t ∷ []) (int_type 1) ds (two os h.0 h.1 t (no-time t l.0) h.2 l.1) p k (λ d. gives-bit o os a)

  shift : (o : OpClass) (os : List OperandText) (t : TypeTree) (ds : List Datum) → class_type o os ≡ first_type os → first_type os ≡ Some t → OperationIs u shifts t os → data_at e os ≡ Some ds
      → ((n k : ℕ) → ClassType o (int_type n ∷ int_type n ∷ int_type k ∷ []) (int_type n)) → FitsLine o os ds
  unfolding Matches
  shift o [] t ds a c l p k = absurd l
  shift o (b ∷ []) t ds a c l p k = absurd l
  shift o (b ∷ h ∷ []) t ds a c l p k = absurd l
  shift o (b ∷ h ∷ n ∷ []) t ds a c l p k =
      let i = l.0.0 in
      let j = l.3.0 in
      made o (b ∷ h ∷ n ∷ []) (int_type i ∷ int_type i ∷ int_type j ∷ []) (int_type i) ds
      ((l.1.0 ∙ ap Some l.0.1, int-no-time i), ((l.2.0 ∙ ap Some l.0.1, int-no-time i), ((l.3.1, int-no-time j), tt))) p (k i j) (λ d. gives-first o (b ∷ h ∷ n ∷ []) (int_type i) t a c l.0.1 d.0)
  shift o (b ∷ h ∷ n ∷ m ∷ more) t ds a c l p k = absurd l

  select : (os : List OperandText) (t : TypeTree) (ds : List Datum) → first_type os ≡ Some t → OperationIs u selects t os → data_at e os ≡ Some ds → FitsLine class.Select os ds
  unfolding Matches
  select [] t ds c l p = absurd l
  select (x ∷ []) t ds c l p = absurd l
  select (x ∷ s ∷ []) t ds c l p =
      made class.Select (x ∷ s ∷ []) (array_type l.1.0 t ∷ int_type l.2.0 ∷ []) t ds ((l.1.1, array-no-time l.1.0 t), ((l.2.1, int-no-time l.2.0), tt)) p (l.1.0, l.2.0, refl)
      (λ d. gives-first class.Select (x ∷ s ∷ []) t t refl c refl d.0.0)
  select (x ∷ s ∷ y ∷ more) t ds c l p = absurd l

  -- a value of a type that has the part
  whole-part : (s : Step) (whole t : TypeTree) (d : Datum) → IsTypeWithinLimits whole → FitsType d whole → part_type s whole ≡ Some t → NoTime whole × PartHasType whole s t
  whole-part s (signal_type x) t d v g h = absurd v
  whole-part s time_type t d v g h = absurd (none s h)
    where
      none : (r : Step) → part_type r time_type ≡ Some t → ⊥
      none (Field k) q = cc
      none (Slice a l) q = cc
  whole-part s (int_type n) t d v g h = (int-no-time n, h)
  whole-part s (array_type n x) t d v g h = (array-no-time n x, h)
  whole-part s (tuple_type r) t d v g h = (no-time (tuple_type r) refl, h)
  whole-part s _ t d v g h = absurd v

  take-part : (o : OpClass) (s : Step) (os : List OperandText) (t : TypeTree) (ds : List Datum) → class_type o os ≡ first_type os → first_type os ≡ Some t → OperationIs u (takes_part s) t os
      → data_at e os ≡ Some ds → ((whole : TypeTree) → PartHasType whole s t → ClassType o (whole ∷ []) t) → FitsLine o os ds
  unfolding Matches
  take-part o s [] t ds a c l p k = absurd l
  take-part o s (x ∷ []) t ds a c l p k =
      let y = front-some (datum_at e x.value) (data_at e []) ds p in
      let v = datum-fits x.value y.0 l.0 y.2 l.1 in
      let h = whole-part s l.0 t y.0 v.0 v.1 l.2 in
      made o (x ∷ []) (l.0 ∷ []) t ds ((l.1, h.0), tt) p (k l.0 h.1) (λ d. gives-first o (x ∷ []) t t a c refl (part-is-data l.0 s t d.0 h.1))
  take-part o s (x ∷ y ∷ more) t ds a c l p k = absurd l

  put-part : (o : OpClass) (s : Step) (os : List OperandText) (t : TypeTree) (ds : List Datum) → class_type o os ≡ first_type os → first_type os ≡ Some t → OperationIs u (puts_part s) t os
      → data_at e os ≡ Some ds → ((q : TypeTree) → PartHasType t s q → ClassType o (t ∷ q ∷ []) t) → FitsLine o os ds
  unfolding Matches NoTime
  put-part o s [] t ds a c l p k = absurd l
  put-part o s (x ∷ []) t ds a c l p k = absurd l
  put-part o s (x ∷ v ∷ []) t ds a c l p k =
      let y = front-some (datum_at e x.value) (data_at e (v ∷ [])) ds p in
      let g = datum-fits x.value y.0 t y.2 l.1 in
      let h = data-part t s l.2.0 l.0 l.2.1 in
      let d : IsData l.2.0 = part-is-data t s l.2.0 (is-data t (no-time t l.0) g.0) h in
      let n : NoTime l.2.0 = λ (z : l.2.0 ≡ time_type). subst IsData z d in
      made o (x ∷ v ∷ []) (t ∷ l.2.0 ∷ []) t ds ((l.1, no-time t l.0), ((l.2.2, n), tt)) p (k l.2.0 h) (λ r. gives-first o (x ∷ v ∷ []) t t a c refl r.0)
  put-part o s (x ∷ v ∷ y ∷ more) t ds a c l p k = absurd l

  array : (os : List OperandText) (t : TypeTree) (ds : List Datum) → first_type os ≡ Some t → (is_data t ≡ true) × Each (IsLike u t) os → data_at e os ≡ Some ds → FitsLine class.Array os ds
  array os t ds first l p =
      let n : length (replicate (length os) t) ≡ length os = length-replicate (length os) t in
      made class.Array os (replicate (length os) t) (array_type (length (replicate (length os) t)) t) ds (alike-all os t (no-time t l.0) l.1) p
      (t, omega (arith, n, some-first os t first), ap (λ (k : ℕ). replicate k t) (sym n), refl)
      (λ d. subst (λ (k : ℕ). GivesType class.Array os (array_type k t)) (sym n) (gives-array (length os) class.Array os t refl first (first-data (length os) t (some-first os t first) d)))

  repeat : (n : ℕ) (os : List OperandText) (t : TypeTree) (ds : List Datum) → first_type os ≡ Some t → (is_data t ≡ true) × Each (IsLike u t) os → (x : OperandText) → os ≡ x ∷ [] → 0 < n
      → data_at e os ≡ Some ds → FitsLine (class.Repeat n) os ds
  repeat n os t ds c l x h m p = made (class.Repeat n) os (t ∷ []) (array_type n t) ds (one os x t (no-time t l.0) h l.1) p (t, refl, m, refl) (λ d. gives-array n (class.Repeat n) os t refl c d.0)

  tuple : (os : List OperandText) (t : TypeTree) (ds : List Datum) → first_type os ≡ Some t → Each (λ (o : OperandText). (g : TypeTree) × (is_data g ≡ true) × IsWritten u g o) os
      → data_at e os ≡ Some ds → FitsLine class.Tuple os ds
  tuple os t ds first l p =
      let r = fields-match os l in
      made class.Tuple os r.0 (tuple_type (row_of r.0)) ds r.2 p (omega (arith, r.1, some-first os t first), refl)
      (λ d s q. tuple-made r.0 s d (sym (ap (option_and_then tuple_made) r.3) ∙ q))

  pub fits-line : (o : OpClass) (os : List OperandText) → ((t : TypeTree) × (first_type os ≡ Some t) × OperationIs u (class_row o) t os) → ClassHasOperands o os → (ds : List Datum)
      → data_at e os ≡ Some ds → FitsLine o os ds
  unfolding Ints Two
  fits-line class.Unary os r h ds p = unary class.Unary os r.0 ds refl r.1 r.2 h.0 h.1 p (λ n. (n, refl, refl))
  fits-line class.Binary os r h ds p = twos class.Binary os r.0 ds refl r.1 r.2 h p (λ n. (n, refl, refl))
  fits-line class.Relation os r h ds p = compares class.Relation os r.0 ds refl r.2 h p (λ n. (n, refl, refl))
  fits-line class.Equality os r h ds p = equals class.Equality os r.0 ds refl r.2 h p (r.0, refl, refl)
  fits-line class.Shift os r h ds p = shift class.Shift os r.0 ds refl r.1 r.2 p (λ n k. (n, k, refl, refl))
  fits-line class.Select os r h ds p = select os r.0 ds r.1 r.2 p
  fits-line (class.TakePart s) os r h ds p = take-part (class.TakePart s) s os r.0 ds refl r.1 r.2 p (λ whole q. (whole, refl, q))
  fits-line (class.PutPart s) os r h ds p = put-part (class.PutPart s) s os r.0 ds refl r.1 r.2 p (λ part q. (part, refl, q))
  fits-line class.Array os r h ds p = array os r.0 ds r.1 r.2 p
  fits-line (class.Repeat n) os r h ds p = repeat n os r.0 ds r.1 r.2 h.0.0 h.0.1 h.1 p
  fits-line class.Tuple os r h ds p = tuple os r.0 ds r.1 r.2 p

  pub fits-row : (o : Op) (os : List OperandText) → RowIs u (pure_text o os) → HasOperands o os → (ds : List Datum) → data_at e os ≡ Some ds → FitsOp o ds
  fits-row o os r h ds p = let l = fits-line (class_of o) os r h ds p in record { types = l.types; gives = l.gives; data_types = l.data_types; values_fit = l.values_fit; row = l.row }

pub operands-fit-rows : OperandsFitRows
operands-fit-rows u w e o os f r h ds p = fits-row u w e f o os r h ds p

-- a truth value is read again
pub test-truth : (b : Bool) → as_test (bit_value b) ≡ Some b
test-truth true = refl
test-truth false = refl
