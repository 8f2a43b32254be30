-- Which operations give the value of a term: its own, the array or struct of a constant's parts, and `mux` for a choice.
use Rattle.std.proofs.Common.{◌≡◌, zero, suc, Bool, true, false, ◌&&◌, List, [], ◌∷◌, map, refl, ap, sym, ◌∙◌, subst, arith, inl, inr}
use Rattle.lh_types.specs.Types.{TypeTree, int_type, IsData, AreData}
use Rattle.lh_types.specs.Values.{Datum, DatumRow, int_value, time_value, array_value, tuple_value, no_values, more_values, data_row}
use Rattle.lh_types.specs.Fits.{FitsType, PartsFit, FitsRow}
use Rattle.lh_types.specs.Parts.{parts_of}
use Rattle.lh_types.specs.Apply.{apply}
use Rattle.lh_types.specs.declared.op.Op.{Op}
use Rattle.lh_types.specs.declared.op.Op.TheVariants.{Mux, Array, Tuple}
use Rattle.lh_unit.specs.Within.{Each}
use Rattle.lh_term.specs.Tree.{Tree, TreeRow, constant, operation, choice_of, no_trees, more_trees, operation_on}
use Rattle.lh_term.specs.Types.{FitsTerm, IsValueType, IsTyped, value_type, first_type, value_types}
use Rattle.lh_term.specs.Mean.{Valuation, IsFitting, mean, means, chosen}
use Rattle.lh_term.specs.Make.{is_constant, value_in}
use Rattle.lh_term.proofs.TermTypes.{fits_term, mean_fits}
use Rattle.lh_term.proofs.Sound.{constant_term}
use Rattle.lh_emit_def.specs.Needs.{constants, operands_in, pair_of}

-- what a term means now
abbrev pub value : Valuation → Tree → Datum
value v t = mean v v t

abbrev pub values : Valuation → List Tree → List Datum
values v ts = map (value v) ts

-- How an operation makes a term: it is the term's own; or the term is a constant array or struct, and these are its parts; or a choice, and these are
-- the array of both its terms and its condition.
pub data MakesTerm : Op → List Tree → Tree → Type 0 where
  its_own : (op : Op) (ts : TreeRow) → MakesTerm op (operands_in ts) (operation op ts)
  elements : (vs : DatumRow) → MakesTerm Array (constants vs) (constant (array_value vs))
  fields : (vs : DatumRow) → MakesTerm Tuple (constants vs) (constant (tuple_value vs))
  both : (c f t : Tree) → MakesTerm Mux (pair_of f t ∷ c ∷ []) (choice_of c f t)

-- the operation on these terms gives the value of the term
pub record Computes (op : Op) (ts : List Tree) (t : Tree) : Type 0 where
  pub typed : IsTyped t
  pub makes : MakesTerm op ts t
  pub mean : (v : Valuation) → IsFitting v → value v t ≡ apply op (values v ts)

-- ---- an operation

operands-mean : (v : Valuation) (ts : TreeRow) → means v v ts ≡ values v (operands_in ts)
operands-mean v no_trees = refl
operands-mean v (more_trees t ts) = ap (λ x. value v t ∷ x) (operands-mean v ts)

pub operation-computes : (op : Op) (ts : TreeRow) → IsTyped (operation op ts) → Computes op (operands_in ts) (operation op ts)
operation-computes op ts w = record { typed = w; makes = its_own op ts; mean = λ v h. ap (apply op) (operands-mean v ts) }

-- ---- constants

constants-mean : (v : Valuation) (vs : DatumRow) → data_row (values v (constants vs)) ≡ vs
constants-mean v no_values = refl
constants-mean v (more_values x vs) = ap (more_values x) (constants-mean v vs)

pub array-computes : (vs : DatumRow) → IsTyped (constant (array_value vs)) → Computes Array (constants vs) (constant (array_value vs))
unfolding apply
array-computes vs w = record { typed = w; makes = elements vs; mean = λ v h. ap array_value (sym (constants-mean v vs)) }

pub tuple-computes : (vs : DatumRow) → IsTyped (constant (tuple_value vs)) → Computes Tuple (constants vs) (constant (tuple_value vs))
unfolding apply
tuple-computes vs w = record { typed = w; makes = fields vs; mean = λ v h. ap tuple_value (sym (constants-mean v vs)) }

-- the parts of a constant are typed
elements-typed : (vs : DatumRow) (t : TypeTree) → IsData t → PartsFit vs t → Each FitsTerm (parts_of vs)
elements-typed no_values t d h = tt
elements-typed (more_values v vs) t d h = (fits_term v t d h.0, elements-typed vs t d h.1)

fields-typed : (vs : DatumRow) → AreData (value_types vs) → FitsRow vs (value_types vs) → Each FitsTerm (parts_of vs)
fields-typed no_values d h = tt
fields-typed (more_values v vs) d h = (record { fits = h.0; is_value = inl d.0 }, fields-typed vs d.1 h.1)

pub array-parts : (vs : DatumRow) → FitsTerm (array_value vs) → Each FitsTerm (parts_of vs)
array-parts vs w = by w.is_value
  where
    by : IsValueType (value_type (array_value vs)) → Each FitsTerm (parts_of vs)
    by (inl d) = elements-typed vs (first_type vs) d.0 w.fits.1
    by (inr e) = absurd cc

pub tuple-parts : (vs : DatumRow) → FitsTerm (tuple_value vs) → Each FitsTerm (parts_of vs)
tuple-parts vs w = by w.is_value
  where
    by : IsValueType (value_type (tuple_value vs)) → Each FitsTerm (parts_of vs)
    by (inl d) = fields-typed vs d.0 w.fits
    by (inr e) = absurd cc

-- ---- a choice

-- a value of one bit chooses as `mux` does
mux-chooses : (x f t : Datum) → FitsType x (int_type 1) → chosen x f t ≡ apply Mux (array_value (data_row (f ∷ t ∷ [])) ∷ x ∷ [])
unfolding apply
mux-chooses (int_value n zero) f t h = refl
mux-chooses (int_value n (suc zero)) f t h = refl
mux-chooses (int_value n (suc (suc a))) f t h = absurd (omega (arith, h.1))
mux-chooses (time_value d) f t h = absurd h
mux-chooses (array_value vs) f t h = absurd h
mux-chooses (tuple_value vs) f t h = absurd h

-- the array of both terms, as it is made
pub pair-constant : (f t : Tree) → is_constant f ≡ true → is_constant t ≡ true → pair_of f t ≡ constant (array_value (more_values (value_in f) (more_values (value_in t) no_values)))
unfolding apply
pair-constant f t p q = rw p (rw q refl)

pub pair-else : (f t : Tree) → (is_constant f && is_constant t) ≡ false → pair_of f t ≡ operation_on Array (f ∷ t ∷ [])
pair-else f t p = at (is_constant f) (is_constant t) refl refl
  where
    at : (a b : Bool) → is_constant f ≡ a → is_constant t ≡ b → pair_of f t ≡ operation_on Array (f ∷ t ∷ [])
    at true true q r = let e : true ≡ false = (rw (q, r) at p) in absurd cc
    at true false q r = rw q (rw r refl)
    at false true q r = rw q refl
    at false false q r = rw q refl

pair-mean : (v : Valuation) (f t : Tree) → value v (pair_of f t) ≡ array_value (data_row (value v f ∷ value v t ∷ []))
unfolding apply
pair-mean v f t = at (is_constant f) (is_constant t) refl refl
  where
    at : (a b : Bool) → is_constant f ≡ a → is_constant t ≡ b → value v (pair_of f t) ≡ array_value (data_row (value v f ∷ value v t ∷ []))
    at true true p q =
        let e : f ≡ constant (value_in f) = constant_term f p in
        let g : t ≡ constant (value_in t) = constant_term t q in
        ap (value v) (pair-constant f t p q)
        ∙ sym (ap (λ x. array_value (data_row (value v x ∷ value v t ∷ []))) e ∙ ap (λ x. array_value (data_row (value_in f ∷ value v x ∷ []))) g)
    at true false p q = ap (value v) (pair-else f t (rw (p, q) refl))
    at false true p q = ap (value v) (pair-else f t (rw p refl))
    at false false p q = ap (value v) (pair-else f t (rw p refl))

pub choice-computes : (c f t : Tree) → IsTyped (choice_of c f t) → Computes Mux (pair_of f t ∷ c ∷ []) (choice_of c f t)
choice-computes c f t w = record {
  typed = w;
  makes = both c f t;
  mean = λ v h.
      let k : FitsType (value v c) (int_type 1) = subst (λ x. FitsType (value v c) x) w.3.0 (mean_fits v v h h c w.0) in
      mux-chooses (value v c) (value v f) (value v t) k ∙ ap (λ x. apply Mux (x ∷ value v c ∷ [])) (sym (pair-mean v f t));
}
