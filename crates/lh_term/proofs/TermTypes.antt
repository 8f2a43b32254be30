-- The types of terms.
use Rattle.std.proofs.Common.{◌≡◌, ℕ, zero, suc, ◌+◌, ◌<◌, ◌≤◌, List, [], ◌∷◌, length, replicate, Bool, true, false, ◌&&◌, nat_lt, nat_le, refl, ap, sym, ◌∙◌, subst, Option, Some, None, option_map, arith, inl}
use Rattle.lh_types.specs.Types.{TypeTree, TypeRow, int_type, time_type, void_type, array_type, tuple_type, signal_type, pointer_type, no_types, more_types, row_of, IsData, AreData, bit_count}
use Rattle.lh_types.specs.Values.{Datum, DatumRow, int_value, time_value, array_value, tuple_value, no_values, more_values, data_row}
use Rattle.lh_types.specs.Fits.{FitsType, FitsRow, PartsFit, part_count}
use Rattle.lh_types.specs.Parts.{Part as Within, part_if, part_beyond, field_part}
use Rattle.lh_types.specs.Classes.{class_of}
use Rattle.lh_types.specs.ApplyTypes.{ClassType, PartHasType}
use Rattle.lh_types.specs.Apply.{apply}
use Rattle.lh_types.specs.declared.part.Step.{Step}
use Rattle.lh_types.specs.declared.part.Step.TheVariants.{Field, Slice}
use Rattle.lh_types.specs.declared.op.Op.{Op}
use Rattle.lh_types.specs.declared.op.OpClass.{OpClass}
use Rattle.lh_types.specs.declared.op.OpClass.TheVariants as class
use Rattle.lh_ops.proofs.TypeLemmas.{results_fit_lem}
use Rattle.lh_term.specs.Tree.{Tree, TreeRow, constant, past_of, now_of, operation, choice_of, no_trees, more_trees}
use Rattle.lh_term.specs.Types.{value_type, first_type, value_types, first_of, element_of, type_in_row, field_type, slice_type, step_type, class_result, row_result, type_of, types_of, IsValueType, FitsTerm, TakesTypes, IsTyped, AreTyped}
use Rattle.lh_term.specs.Mean.{Valuation, IsFitting, chosen, mean, means}

-- ---- the type of a value is the one that it fits

mutual
  pub value_is : (v : Datum) (t : TypeTree) → IsData t → FitsType v t → value_type v ≡ t
  value_is (int_value w b) (int_type n) d f = ap int_type f.0
  value_is (array_value vs) (array_type n t) d f =
      let e = f.0 in
      let g = first_is vs t d.0 f.1 (let l : 1 ≤ n = d.1 in omega (arith, e)) in
      λ i. array_type (e i) (g i)
  value_is (tuple_value vs) (tuple_type ts) d f = ap tuple_type (values_are vs ts d.0 f)
  value_is (int_value w b) time_type d f = absurd f
  value_is (int_value w b) void_type d f = absurd f
  value_is (int_value w b) (array_type n t) d f = absurd f
  value_is (int_value w b) (tuple_type ts) d f = absurd f
  value_is (int_value w b) (signal_type t) d f = absurd f
  value_is (int_value w b) (pointer_type t) d f = absurd f
  value_is (time_value w) (int_type n) d f = absurd f
  value_is (time_value w) time_type d f = absurd d
  value_is (time_value w) void_type d f = absurd f
  value_is (time_value w) (array_type n t) d f = absurd f
  value_is (time_value w) (tuple_type ts) d f = absurd f
  value_is (time_value w) (signal_type t) d f = absurd f
  value_is (time_value w) (pointer_type t) d f = absurd f
  value_is (array_value vs) (int_type n) d f = absurd f
  value_is (array_value vs) time_type d f = absurd f
  value_is (array_value vs) void_type d f = absurd f
  value_is (array_value vs) (tuple_type ts) d f = absurd f
  value_is (array_value vs) (signal_type t) d f = absurd f
  value_is (array_value vs) (pointer_type t) d f = absurd f
  value_is (tuple_value vs) (int_type n) d f = absurd f
  value_is (tuple_value vs) time_type d f = absurd f
  value_is (tuple_value vs) void_type d f = absurd f
  value_is (tuple_value vs) (array_type n t) d f = absurd f
  value_is (tuple_value vs) (signal_type t) d f = absurd f
  value_is (tuple_value vs) (pointer_type t) d f = absurd f

  first_is : (vs : DatumRow) (t : TypeTree) → IsData t → PartsFit vs t → 1 ≤ part_count vs → first_type vs ≡ t
  first_is no_values t d f l = absurd (omega arith)
  first_is (more_values v vs) t d f l = value_is v t d f.0

  values_are : (vs : DatumRow) (ts : TypeRow) → AreData ts → FitsRow vs ts → value_types vs ≡ ts
  values_are no_values no_types d f = refl
  values_are (more_values v vs) (more_types t ts) d f =
      let e = value_is v t d.0 f.0 in
      let g = values_are vs ts d.1 f.1 in
      λ i. more_types (e i) (g i)
  values_are no_values (more_types t ts) d f = absurd f
  values_are (more_values v vs) no_types d f = absurd f

-- a value that fits a data type can be a constant
pub fits_term : (v : Datum) (t : TypeTree) → IsData t → FitsType v t → FitsTerm v
fits_term v t d f =
    let e = value_is v t d f in
    let P : TypeTree → Type 0 = FitsType v in
    let Q : TypeTree → Type 0 = IsValueType in
    record { fits = subst P (sym e) f; is_value = subst Q (sym e) (inl d) }

-- ---- the type of what a row gives is the row's

part_if_of : (b : Bool) (lo : ℕ) (t r : TypeTree) → option_map (λ (p : Within). p.of) (part_if b lo t) ≡ Some r → t ≡ r
part_if_of true lo t r e = cc
part_if_of false lo t r e = cc

beyond_of : (n : ℕ) (p : Option Within) (r : TypeTree) → option_map (λ (q : Within). q.of) (option_map (part_beyond n) p) ≡ Some r → option_map (λ (q : Within). q.of) p ≡ Some r
beyond_of n None r e = cc
beyond_of n (Some p) r e = e

field_is : (ts : TypeRow) (k : ℕ) (r : TypeTree) → option_map (λ (p : Within). p.of) (field_part ts k) ≡ Some r → type_in_row ts k ≡ r
field_is no_types k r e = cc
field_is (more_types t ts) zero r e = cc
field_is (more_types t ts) (suc k) r e = field_is ts k r (beyond_of (bit_count t) (field_part ts k) r e)

has_field : (t : TypeTree) (k : ℕ) (r : TypeTree) → PartHasType t (Field k) r → field_type t k ≡ r
has_field (array_type n t) k r e = part_if_of (nat_lt k n) _ t r e
has_field (tuple_type ts) k r e = field_is ts k r e
has_field (int_type n) k r e = cc
has_field time_type k r e = cc
has_field void_type k r e = cc
has_field (signal_type t) k r e = cc
has_field (pointer_type t) k r e = cc

has_slice : (t : TypeTree) (o n : ℕ) (r : TypeTree) → PartHasType t (Slice o n) r → slice_type t n ≡ r
has_slice (int_type m) o n r e = part_if_of (nat_le 1 n && nat_le (o + n) m) o (int_type n) r e
has_slice (array_type m t) o n r e = part_if_of (nat_le 1 n && nat_le (o + n) m) _ (array_type n t) r e
has_slice (tuple_type ts) o n r e = cc
has_slice time_type o n r e = cc
has_slice void_type o n r e = cc
has_slice (signal_type t) o n r e = cc
has_slice (pointer_type t) o n r e = cc

first_replicate : (ts : List TypeTree) (t : TypeTree) → 0 < length ts → ts ≡ replicate (length ts) t → first_of ts ≡ t
first_replicate [] t h e = absurd (omega arith)
first_replicate (u ∷ ts) t h e = cc

of_first : (ts us : List TypeTree) (r : TypeTree) → ts ≡ us → r ≡ first_of us → first_of ts ≡ r
of_first ts us r e f = ap first_of e ∙ sym f

has_step : (t : TypeTree) (s : Step) (r : TypeTree) → PartHasType t s r → step_type s t ≡ r
has_step t (Field k) r e = has_field t k r e
has_step t (Slice o n) r e = has_slice t o n r e

pub class_is : (c : OpClass) (ts : List TypeTree) (r : TypeTree) → ClassType c ts r → class_result c ts ≡ r
class_is class.Unary ts r k = of_first ts _ r k.1 k.2
class_is class.Binary ts r k = of_first ts _ r k.1 k.2
class_is class.Relation ts r k = sym k.2
class_is class.Equality ts r k = sym k.2
class_is class.Shift ts r k = of_first ts _ r k.2 k.3
class_is class.Select ts r k = ap (λ us. element_of (first_of us)) k.2
class_is (class.TakePart s) ts r k = ap (λ us. step_type s (first_of us)) k.1 ∙ has_step k.0 s r k.2
class_is (class.PutPart s) ts r k = of_first ts _ r k.1 refl
class_is class.Array ts r k = ap (array_type (length ts)) (first_replicate ts k.0 k.1 k.2) ∙ sym k.3
class_is (class.Repeat n) ts r k = ap (λ us. array_type n (first_of us)) k.1 ∙ sym k.3
class_is class.Tuple ts r k = sym k.1

pub gives_is : (op : Op) (ts : List TypeTree) (k : TakesTypes op ts) → row_result op ts ≡ k.gives
gives_is op ts k = class_is (class_of op) ts k.gives k.row

-- ---- a typed term is of a type of values, and means a value of it

pub value_typed : (t : Tree) → IsTyped t → IsValueType (type_of t)
value_typed (constant v) h = h.is_value
value_typed (past_of p) h = inl h
value_typed (now_of p) h = inl h
value_typed (operation op ts) h = let P : TypeTree → Type 0 = IsData in inl (subst P (sym (gives_is op (types_of ts) h.1)) h.1.is_data)
value_typed (choice_of c f t) h = value_typed f h.1

chosen_fits : (c f t : Datum) (r : TypeTree) → FitsType f r → FitsType t r → FitsType (chosen c f t) r
chosen_fits (int_value n zero) f t r p q = p
chosen_fits (int_value n (suc a)) f t r p q = q
chosen_fits (time_value d) f t r p q = q
chosen_fits (array_value vs) f t r p q = q
chosen_fits (tuple_value vs) f t r p q = q

mutual
  pub mean_fits : (past now : Valuation) → IsFitting past → IsFitting now → (t : Tree) → IsTyped t → FitsType (mean past now t) (type_of t)
  mean_fits past now p n (constant v) h = h.fits
  mean_fits past now p n (past_of q) h = p q h
  mean_fits past now p n (now_of q) h = n q h
  mean_fits past now p n (operation op ts) h =
      let k = h.1 in
      let P : TypeTree → Type 0 = FitsType (apply op (means past now ts)) in
      subst P (sym (gives_is op (types_of ts) k)) (results_fit_lem op (means past now ts) (types_of ts) k.gives k.data_types (means_fit past now p n ts h.0) k.row)
  mean_fits past now p n (choice_of c f t) h =
      let P : TypeTree → Type 0 = FitsType (mean past now t) in
      chosen_fits (mean past now c) (mean past now f) (mean past now t) (type_of f) (mean_fits past now p n f h.1) (subst P (sym h.3.1) (mean_fits past now p n t h.2))

  pub means_fit : (past now : Valuation) → IsFitting past → IsFitting now → (ts : TreeRow) → AreTyped ts → FitsRow (data_row (means past now ts)) (row_of (types_of ts))
  means_fit past now p n no_trees h = tt
  means_fit past now p n (more_trees t ts) h = (mean_fits past now p n t h.0, means_fit past now p n ts h.1)
