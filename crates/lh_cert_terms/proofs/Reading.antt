-- Terms read again mean the same.
use Rattle.std.proofs.Common.{◌≡◌, zero, suc, ◌+◌, Bool, true, false, if◌then◌else◌, List, [], ◌∷◌, refl, sym, ap, ◌∙◌, subst, inl, inr, arith, Option, Some, None}
use Rattle.lh_types.specs.Types.{TypeTree, int_type, array_type}
use Rattle.lh_types.specs.Values.{Datum, int_value, time_value, array_value, tuple_value, no_values, more_values, data_row}
use Rattle.lh_types.specs.Fits.{FitsType}
use Rattle.lh_types.specs.Same.{same-is}
use Rattle.lh_types.specs.Apply.{apply}
use Rattle.lh_types.specs.declared.op.Op.{Op}
use Rattle.lh_types.specs.declared.op.Op.TheVariants.{Mux, Array}
use Rattle.lh_term.specs.Tree.{Tree, TreeRow, constant, past_of, now_of, operation, choice_of, no_trees, more_trees, tree_row, operation_on}
use Rattle.lh_term.specs.Types.{IsTyped, AreTyped, TakesTypes, IsValueType, type_of, types_of, value_type, row_result}
use Rattle.lh_term.specs.Mean.{Valuation, IsFitting, mean, means, chosen}
use Rattle.lh_term.specs.Make.{make_choice}
use Rattle.lh_term.specs.Laws.{MeansSame}
use Rattle.lh_term.proofs.Sound.{operation_sound, choice_sound}
use Rattle.lh_term.proofs.TermTypes.{value_is, fits_term, mean_fits}
use Rattle.lh_edge.specs.Atoms.{is_one_bit}
use Rattle.lh_cert_terms.specs.Rebuilding.{pair_in, selected, read_operation, rebuilt, rebuilt_row}
use Rattle.lh_cert_terms.specs.Laws.{MeansNow}

-- a value of one bit chooses as `mux` does
mux_chooses : (x f t : Datum) → FitsType x (int_type 1) → chosen x f t ≡ apply Mux (array_value (data_row (f ∷ t ∷ [])) ∷ x ∷ [])
unfolding apply
mux_chooses (int_value n zero) f t h = refl
mux_chooses (int_value n (suc zero)) f t h = refl
mux_chooses (int_value n (suc (suc a))) f t h = absurd (omega (arith, h.1))
mux_chooses (time_value d) f t h = absurd h
mux_chooses (array_value vs) f t h = absurd h
mux_chooses (tuple_value vs) f t h = absurd h

-- ---- the two elements of an array

-- an array has these two elements: they are typed, of one type, and what it means is the array of what they mean
pub record IsPair (x f t : Tree) : Type 0 where
  pub first : IsTyped f
  pub second : IsTyped t
  pub alike : type_of f ≡ type_of t
  pub type : type_of x ≡ array_type 2 (type_of f)
  pub elements : (past now : Valuation) → mean past now x ≡ array_value (data_row (mean past now f ∷ mean past now t ∷ []))

constant_pair : (f t : Datum) → IsTyped (constant (array_value (more_values f (more_values t no_values)))) → IsPair (constant (array_value (more_values f (more_values t no_values)))) (constant f) (constant t)
constant_pair f t h = by h.is_value
  where
    two : 0 + 1 + 1 ≡ 2
    two = refl

    by : IsValueType (value_type (array_value (more_values f (more_values t no_values)))) → IsPair (constant (array_value (more_values f (more_values t no_values)))) (constant f) (constant t)
    by (inl d) = record {
      first = fits_term f (value_type f) d.0 h.fits.1.0;
      second = fits_term t (value_type f) d.0 h.fits.1.1.0;
      alike = sym (value_is t (value_type f) d.0 h.fits.1.1.0);
      type = refl;
      elements = λ past now. refl;
    }
    by (inr e) = absurd cc

operation_pair : (f t : Tree) → IsTyped (operation Array (more_trees f (more_trees t no_trees))) → IsPair (operation Array (more_trees f (more_trees t no_trees))) f t
unfolding apply
operation_pair f t h =
    let u = h.1.row.0 in
    let e : type_of f ∷ type_of t ∷ [] ≡ u ∷ u ∷ [] = h.1.row.2 in
    record {
      first = h.0.0;
      second = h.0.1.0;
      alike = let a : type_of f ≡ u = cc in let b : type_of t ≡ u = cc in a ∙ sym b;
      type = refl;
      elements = λ past now. refl;
    }

pub record Found (x : Tree) (p : Tree × Tree) : Type 0 where
  pub is : IsTyped x → IsPair x p.0 p.1

pub pair_found : (x : Tree) (p : Tree × Tree) → pair_in x ≡ Some p → Found x p
pair_found (constant (array_value (more_values f (more_values t no_values)))) p e =
    let q : (constant f, constant t) ≡ p = cc in subst (λ (r : Tree × Tree). Found (constant (array_value (more_values f (more_values t no_values)))) r) q (record { is = constant_pair f t })
pair_found (operation Array (more_trees f (more_trees t no_trees))) p e =
    let q : (f, t) ≡ p = cc in subst (λ (r : Tree × Tree). Found (operation Array (more_trees f (more_trees t no_trees))) r) q (record { is = operation_pair f t })
pair_found _ p e = cc

-- ---- an operation as read

module _ (x s : Tree) (h : IsTyped (operation_on Mux (x ∷ s ∷ []))) where
  chosen_sound : is_one_bit s ≡ true → (f t : Tree) → IsPair x f t → MeansSame (make_choice s f t) (operation_on Mux (x ∷ s ∷ []))
  chosen_sound b f t q =
      let one : type_of s ≡ int_type 1 = same-is (type_of s) (int_type 1) b in
      let c = choice_sound s f t (h.0.1.0, q.first, q.second, (one, q.alike)) in
      record {
        typed = c.typed;
        type = c.type ∙ ap (λ u. row_result Mux (u ∷ type_of s ∷ [])) (sym q.type);
        mean = λ past now p n.
            let k : FitsType (mean past now s) (int_type 1) = subst (λ u. FitsType (mean past now s) u) one (mean_fits past now p n s h.0.1.0) in
            c.mean past now p n ∙ mux_chooses (mean past now s) (mean past now f) (mean past now t) k
            ∙ ap (λ d. apply Mux (d ∷ mean past now s ∷ [])) (sym (q.elements past now));
      }

  selected_sound : MeansSame (selected x s (if is_one_bit s then pair_in x else None)) (operation_on Mux (x ∷ s ∷ []))
  selected_sound = bit (is_one_bit s) refl
    where
      two : (o : Option (Tree × Tree)) → is_one_bit s ≡ true → pair_in x ≡ o → MeansSame (selected x s o) (operation_on Mux (x ∷ s ∷ []))
      two (Some p) b e = let k = pair_found x p e in chosen_sound b p.0 p.1 (k.is h.0.0)
      two None b e = operation_sound Mux (x ∷ s ∷ []) h

      bit : (b : Bool) → is_one_bit s ≡ b → MeansSame (selected x s (if b then pair_in x else None)) (operation_on Mux (x ∷ s ∷ []))
      bit true e = two (pair_in x) e refl
      bit false e = operation_sound Mux (x ∷ s ∷ []) h

pub read_sound : (op : Op) (ts : List Tree) → IsTyped (operation_on op ts) → MeansSame (read_operation op ts) (operation_on op ts)
read_sound Mux [] h = operation_sound Mux [] h
read_sound Mux (x ∷ []) h = operation_sound Mux (x ∷ []) h
read_sound Mux (x ∷ s ∷ []) h = selected_sound x s h
read_sound Mux (x ∷ s ∷ u ∷ ts) h = operation_sound Mux (x ∷ s ∷ u ∷ ts) h
read_sound op ts h = operation_sound op ts h

-- ---- a term read again

pub record RowNow (xs : List Tree) (ts : TreeRow) : Type 0 where
  pub typed : AreTyped (tree_row xs)
  pub types : types_of (tree_row xs) ≡ types_of ts
  pub row_means : (v : Valuation) → IsFitting v → means v v (tree_row xs) ≡ means v v ts

mutual
  pub rebuilt_sound : (t : Tree) → IsTyped t → MeansNow (rebuilt t) t
  rebuilt_sound (constant v) h = record { typed = h; type = refl; mean = λ v f. refl }
  rebuilt_sound (past_of p) h = record { typed = h; type = refl; mean = λ v f. refl }
  rebuilt_sound (now_of p) h = record { typed = h; type = refl; mean = λ v f. refl }
  rebuilt_sound (operation op ts) h =
      let k = row_sound ts h.0 in
      let P : List TypeTree → Type 0 = TakesTypes op in
      let m = read_sound op (rebuilt_row ts) (k.typed, subst P (sym k.types) h.1) in
      record {
        typed = m.typed;
        type = m.type ∙ ap (row_result op) k.types;
        mean = λ v f. m.mean v v f f ∙ ap (apply op) (k.row_means v f);
      }
  rebuilt_sound (choice_of c f t) h =
      let kc = rebuilt_sound c h.0 in
      let kf = rebuilt_sound f h.1 in
      let kt = rebuilt_sound t h.2 in
      let m = choice_sound (rebuilt c) (rebuilt f) (rebuilt t) (kc.typed, kf.typed, kt.typed, (kc.type ∙ h.3.0, kf.type ∙ h.3.1 ∙ sym kt.type)) in
      record {
        typed = m.typed;
        type = m.type ∙ kf.type;
        mean = λ v g. m.mean v v g g ∙ (λ i. chosen (kc.mean v g i) (kf.mean v g i) (kt.mean v g i));
      }

  pub row_sound : (ts : TreeRow) → AreTyped ts → RowNow (rebuilt_row ts) ts
  row_sound no_trees h = record { typed = tt; types = refl; row_means = λ v f. refl }
  row_sound (more_trees t ts) h =
      let k = rebuilt_sound t h.0 in
      let r = row_sound ts h.1 in
      record {
        typed = (k.typed, r.typed);
        types = λ i. k.type i ∷ r.types i;
        row_means = λ v f. λ i. k.mean v f i ∷ r.row_means v f i;
      }
