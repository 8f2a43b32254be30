-- The rows of the operations that give the values of terms: what they take, and of which type what they give is.
use Rattle.std.proofs.Common.{◌≡◌, ℕ, zero, suc, ◌+◌, ◌<◌, ◌≤◌, true, List, [], ◌∷◌, length, replicate, refl, ap, sym, ◌∙◌, subst, arith, inl, inr}
use Rattle.std.specs.Option.{is_none}
use Rattle.lh_types.specs.Types.{TypeTree, int_type, array_type, tuple_type, more_types, row_of, IsData, AreData, bit_count_row}
use Rattle.lh_types.specs.Values.{DatumRow, array_value, tuple_value, no_values, more_values}
use Rattle.lh_types.specs.Fits.{PartsFit, part_count}
use Rattle.lh_types.specs.Faults.{array_fault}
use Rattle.lh_types.specs.declared.op.Op.{Op}
use Rattle.lh_types.specs.declared.op.Op.TheVariants.{Mux, Array, Tuple}
use Rattle.lh_term.specs.Tree.{Tree, TreeRow, constant, operation, choice_of, no_trees, more_trees, operation_on}
use Rattle.lh_term.specs.Types.{FitsTerm, IsValueType, IsTyped, TakesTypes, type_of, types_of, value_type, first_type, value_types, first_of, row_result}
use Rattle.lh_term.specs.Laws.{MeansSame}
use Rattle.lh_term.proofs.TermTypes.{value_is, value_typed}
use Rattle.lh_term.proofs.Sound.{operation_sound}
use Rattle.lh_emit_def.specs.Needs.{constants, operands_in, pair_of, types_of_all}
use Rattle.lh_emit_def.proofs.Pairs.{pair-typed, array-data}

-- the operation takes terms of these types, and gives one of the type of the term
pub record HasRow (op : Op) (ts : List Tree) (t : Tree) : Type 0 where
  pub takes : TakesTypes op (types_of_all ts)
  pub type : type_of t ≡ row_result op (types_of_all ts)

-- ---- an operation

operands-types : (ts : TreeRow) → types_of ts ≡ types_of_all (operands_in ts)
operands-types no_trees = refl
operands-types (more_trees t ts) = ap (λ x. type_of t ∷ x) (operands-types ts)

pub operation-row : (op : Op) (ts : TreeRow) → IsTyped (operation op ts) → HasRow op (operands_in ts) (operation op ts)
operation-row op ts w = record { takes = subst (TakesTypes op) (operands-types ts) w.1; type = ap (row_result op) (operands-types ts) }

-- ---- constants

elements-types : (vs : DatumRow) (t : TypeTree) → IsData t → PartsFit vs t → types_of_all (constants vs) ≡ replicate (part_count vs) t
elements-types no_values t d h = refl
elements-types (more_values v vs) t d h =
    let e : value_type v ≡ t = value_is v t d h.0 in
    let f = elements-types vs t d h.1 in
    let n : part_count vs + 1 ≡ suc (part_count vs) = omega arith in
    (λ i. e i ∷ f i) ∙ sym (ap (λ k. replicate k t) n)

replicate-length : (n : ℕ) (t : TypeTree) → length (replicate n t) ≡ n
replicate-length zero t = refl
replicate-length (suc n) t = ap suc (replicate-length n t)

replicate-data : (n : ℕ) (t : TypeTree) → IsData t → AreData (row_of (replicate n t))
replicate-data zero t d = tt
replicate-data (suc n) t d = (d, replicate-data n t d)

first-replicate : (n : ℕ) (t : TypeTree) → 1 ≤ n → first_of (replicate n t) ≡ t
first-replicate zero t h = absurd (omega (arith, h))
first-replicate (suc n) t h = refl

-- an array of elements of one type
array-row : (n : ℕ) (t : TypeTree) (ts : List TypeTree) → IsData (array_type n t) → ts ≡ replicate n t → TakesTypes Array ts × (array_type n t ≡ row_result Array ts)
array-row n t ts d e =
    let l : length ts ≡ n = ap length e ∙ replicate-length n t in
    let f : first_of ts ≡ t = ap first_of e ∙ first-replicate n t d.1 in (
      record {
        gives = array_type n t;
        data_types = subst (λ x. AreData (row_of x)) (sym e) (replicate-data n t d.0);
        row = (t, omega (arith, l, d.1), e ∙ ap (λ k. replicate k t) (sym l), ap (λ k. array_type k t) (sym l));
        is_data = d;
      },
      sym (λ i. array_type (l i) (f i)),
    )

pub array-constant_row : (vs : DatumRow) → FitsTerm (array_value vs) → HasRow Array (constants vs) (constant (array_value vs))
array-constant_row vs w = by w.is_value
  where
    by : IsValueType (value_type (array_value vs)) → HasRow Array (constants vs) (constant (array_value vs))
    by (inl d) = let r = array-row (part_count vs) (first_type vs) (types_of_all (constants vs)) d (elements-types vs (first_type vs) d.0 w.fits.1) in record { takes = r.0; type = r.1 }
    by (inr e) = absurd cc

fields-types : (vs : DatumRow) → row_of (types_of_all (constants vs)) ≡ value_types vs
fields-types no_values = refl
fields-types (more_values v vs) = ap (more_types (value_type v)) (fields-types vs)

fields-some : (vs : DatumRow) → 0 < bit_count_row (value_types vs) → 0 < length (types_of_all (constants vs))
fields-some no_values h = absurd (omega (arith, h))
fields-some (more_values v vs) h = omega arith

pub tuple-constant_row : (vs : DatumRow) → FitsTerm (tuple_value vs) → HasRow Tuple (constants vs) (constant (tuple_value vs))
tuple-constant_row vs w = by w.is_value
  where
    by : IsValueType (value_type (tuple_value vs)) → HasRow Tuple (constants vs) (constant (tuple_value vs))
    by (inl d) =
        let e = fields-types vs in
        record {
          takes = record { gives = tuple_type (value_types vs); data_types = subst AreData (sym e) d.0; row = (fields-some vs d.1, ap tuple_type (sym e)); is_data = d };
          type = ap tuple_type (sym e);
        }
    by (inr e) = absurd cc

-- ---- a choice

pub pair-type : (c f t : Tree) → IsTyped (choice_of c f t) → is_none (array_fault 2 (type_of f)) ≡ true → type_of (pair_of f t) ≡ array_type 2 (type_of f)
pair-type c f t w h = let m : MeansSame (pair_of f t) (operation_on Array (f ∷ t ∷ [])) = operation_sound Array (f ∷ t ∷ []) (pair-typed c f t w h) in m.type

pub choice-row : (c f t : Tree) → IsTyped (choice_of c f t) → is_none (array_fault 2 (type_of f)) ≡ true → HasRow Mux (pair_of f t ∷ c ∷ []) (choice_of c f t)
choice-row c f t w h =
    let p = pair-type c f t w h in
    let q : type_of c ≡ int_type 1 = w.3.0 in
    let d : IsData (array_type 2 (type_of f)) = array-data (type_of f) (value_typed f w.1) h in
    record {
      takes = record {
        gives = type_of f;
        data_types = (subst IsData (sym p) d, (subst IsData (sym q) (omega arith, omega arith), tt));
        row = (2, 1, (λ i. p i ∷ q i ∷ []));
        is_data = d.0;
      };
      type = sym (ap (λ x. row_result Mux (x ∷ type_of c ∷ [])) p);
    }
