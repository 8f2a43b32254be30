-- The two elements of an array, by ids.
use Rattle.std.proofs.Common.{◌≡◌, Bool, true, nat_lt, if◌then◌else◌, List, [], ◌∷◌, length, refl, sym, ap, ◌∙◌, subst, Option, Some, None, ltb-true}
use Rattle.std.specs.Cmp.{first_so, second_so}
use Rattle.lh_types.specs.Types.{int_type}
use Rattle.lh_types.specs.Same.{same-is}
use Rattle.lh_types.specs.Values.{Datum, int_value, time_value, array_value, tuple_value, no_values, more_values, data_row}
use Rattle.lh_types.specs.ValueOf.{datum_of}
use Rattle.lh_types.specs.declared.op.Op.{Op}
use Rattle.lh_types.specs.declared.op.Op.TheVariants.{Mux, Array}
use Rattle.lh_types.specs.declared.val.Val.{Val}
use Rattle.lh_term.specs.declared.term.TermId.{TermId}
use Rattle.lh_term.specs.declared.term.Term.{Term}
use Rattle.lh_term.specs.declared.term.Term.TheVariants.{Konst, Op as Applied}
use Rattle.lh_term.specs.declared.term.TermNode.{TermNode}
use Rattle.lh_term.specs.Tree.{Tree, constant, operation_on}
use Rattle.lh_term.specs.Types.{IsTyped, TakesTypes, Chooses, type_of}
use Rattle.lh_term.specs.Arena.{tree_at, trees, trees_at, term_tree, ids_below, AreIn, IsIn, StandsForTree, Grows}
use Rattle.lh_term.proofs.Swaps.{tree_grown, stands_grown}
use Rattle.lh_edge.specs.Atoms.{is_one_bit}
use Rattle.lh_cert_terms.specs.Rebuilding.{pair_in, selected}
use Rattle.lh_cert_terms.specs.Made.{FindsTwo, BothFit, array_operands, two_in, elements_in, data_of, constants_of}
use Rattle.lh_cert_terms.proofs.Reading.{IsPair, pair_found}

-- ---- a constant

elements_fit : (d : Datum) → IsTyped (constant d) → BothFit (elements_in d)
elements_fit d h = at (elements_in d) refl
  where
    at : (o : Option (Datum × Datum)) → elements_in d ≡ o → BothFit o
    at None e = tt
    at (Some p) e = let q = (pair_found (constant d) (constant p.0, constant p.1) (pair_of d p e)).is h in (q.first, q.second)
      where
        pair_of : (v : Datum) (p : Datum × Datum) → elements_in v ≡ Some p → pair_in (constant v) ≡ Some (constant p.0, constant p.1)
        pair_of (array_value (more_values f (more_values t no_values))) p e = let q : (f, t) ≡ p = cc in ap (λ (r : Datum × Datum). Some (constant r.0, constant r.1)) q
        pair_of _ p e = cc

constant_pairs : (d : Datum) → pair_in (constant d) ≡ constants_of (elements_in d)
constant_pairs (array_value (more_values f (more_values t no_values))) = refl
constant_pairs (array_value no_values) = refl
constant_pairs (array_value (more_values f no_values)) = refl
constant_pairs (array_value (more_values f (more_values t (more_values u vs)))) = refl
constant_pairs (int_value n a) = refl
constant_pairs (time_value d) = refl
constant_pairs (tuple_value vs) = refl

pub two_row : (vs : List Datum) → two_in vs ≡ elements_in (array_value (data_row vs))
two_row [] = refl
two_row (f ∷ []) = refl
two_row (f ∷ t ∷ []) = refl
two_row (f ∷ t ∷ u ∷ vs) = refl

-- ---- an operation

operands_found : (ns : List TermNode) (op : Op) (xs : List TermId) → AreIn ns xs → FindsTwo ns (array_operands op xs) (pair_in (operation_on op (trees_at ns xs)))
operands_found ns Array [] h = refl
operands_found ns Array (f ∷ []) h = refl
operands_found ns Array (f ∷ t ∷ []) h = (
  ltb-true f.0 (length ns) (first_so (nat_lt f.0 (length ns)) (ids_below (length ns) (t ∷ [])) h),
  ltb-true t.0 (length ns) (first_so (nat_lt t.0 (length ns)) true (second_so (nat_lt f.0 (length ns)) (ids_below (length ns) (t ∷ [])) h)),
  refl,
)
operands_found ns Array (f ∷ t ∷ u ∷ xs) h = refl
operands_found ns op xs h = refl

module _ (ns : List TermNode) (x : TermId) (k : Term) (shown : term_tree (trees ns) k ≡ tree_at (trees ns) x) where
  pub op_pair : (op : Op) (xs ys : List TermId) → k ≡ Applied op xs → ys ≡ xs → AreIn ns ys → FindsTwo ns (array_operands op ys) (pair_in (tree_at (trees ns) x))
  op_pair op xs ys e f h =
      subst (λ (t : Tree). FindsTwo ns (array_operands op ys) (pair_in t)) (ap (λ l. operation_on op (trees_at ns l)) f ∙ sym (ap (term_tree (trees ns)) e) ∙ shown) (operands_found ns op ys h)

  pub constant_fits : (v : Val) (two : Option (Val × Val)) → k ≡ Konst v → IsTyped (tree_at (trees ns) x) → data_of two ≡ elements_in (datum_of v) → BothFit (data_of two)
  constant_fits v two e h q =
      subst (λ (o : Option (Datum × Datum)). BothFit o) (sym q)
      (elements_fit (datum_of v) (subst (λ (t : Tree). IsTyped t) (sym shown ∙ ap (term_tree (trees ns)) e) h))

  pub constant_found : (new : List TermNode) (p : Option (TermId × TermId)) (v : Val) (two : Option (Val × Val)) → k ≡ Konst v → data_of two ≡ elements_in (datum_of v)
      → FindsTwo new p (constants_of (data_of two)) → FindsTwo new p (pair_in (tree_at (trees ns) x))
  constant_found new p v two e q h =
      subst (λ (o : Option (Tree × Tree)). FindsTwo new p o)
      (ap constants_of q ∙ sym (constant_pairs (datum_of v)) ∙ ap pair_in (sym (ap (term_tree (trees ns)) e) ∙ shown)) h

-- the constants that were made
pub constants_found : (cur new : List TermNode) (two : Option (Val × Val)) (p : Val × Val) (x y : TermId) → two ≡ Some p → Grows cur new → StandsForTree cur x (constant (datum_of p.0))
    → StandsForTree new y (constant (datum_of p.1)) → FindsTwo new (Some (x, y)) (constants_of (data_of two))
constants_found cur new two p x y e g s t =
    let m = stands_grown cur new g x (constant (datum_of p.0)) s in
    let a = m.tree in
    let b = t.tree in
    subst (λ (o : Option (Val × Val)). FindsTwo new (Some (x, y)) (constants_of (data_of o))) (sym e) (m.is_in, t.is_in, λ i. Some (sym a i, sym b i))

-- ---- a choice between the two

module _ (old cur : List TermNode) (g : Grows old cur) (x s : TermId) (x_in : IsIn old x) (s_in : IsIn old s) (hx : IsTyped (tree_at (trees old) x)) (b : is_one_bit (tree_at (trees old) s) ≡ true) where
  X : Tree
  X = tree_at (trees old) x

  module _ (p : TermId × TermId) (h : FindsTwo cur (Some p) (pair_in (tree_at (trees old) x))) where
    two : IsPair (tree_at (trees old) x) (tree_at (trees cur) p.0) (tree_at (trees cur) p.1)
    two = (pair_found (tree_at (trees old) x) (tree_at (trees cur) p.0, tree_at (trees cur) p.1) h.2).is hx

    pub pair_chooses : Chooses (type_of (tree_at (trees cur) s)) (type_of (tree_at (trees cur) p.0)) (type_of (tree_at (trees cur) p.1))
    pair_chooses = (ap type_of (tree_grown old cur g s s_in) ∙ same-is (type_of (tree_at (trees old) s)) (int_type 1) b, two.alike)

    pub pair_selected : selected (tree_at (trees old) x) (tree_at (trees cur) s) (Some (tree_at (trees cur) p.0, tree_at (trees cur) p.1))
        ≡ selected (tree_at (trees old) x) (tree_at (trees old) s) (if is_one_bit (tree_at (trees old) s) then pair_in (tree_at (trees old) x) else None)
    pair_selected =
        ap (λ t. selected (tree_at (trees old) x) t (Some (tree_at (trees cur) p.0, tree_at (trees cur) p.1))) (tree_grown old cur g s s_in)
        ∙ ap (selected (tree_at (trees old) x) (tree_at (trees old) s)) (sym h.2 ∙ ap (λ (c : Bool). if c then pair_in (tree_at (trees old) x) else None) (sym b))

  pub none_takes : TakesTypes Mux (type_of (tree_at (trees old) x) ∷ type_of (tree_at (trees old) s) ∷ []) → TakesTypes Mux (type_of (tree_at (trees cur) x) ∷ type_of (tree_at (trees cur) s) ∷ [])
  none_takes k =
      let e = tree_grown old cur g x x_in in
      let f = tree_grown old cur g s s_in in
      subst (λ (t : Tree × Tree). TakesTypes Mux (type_of t.0 ∷ type_of t.1 ∷ [])) (λ i. (sym e i, sym f i)) k

  pub none_selected : pair_in (tree_at (trees old) x) ≡ None → selected (tree_at (trees cur) x) (tree_at (trees cur) s) None
      ≡ selected (tree_at (trees old) x) (tree_at (trees old) s) (if is_one_bit (tree_at (trees old) s) then pair_in (tree_at (trees old) x) else None)
  none_selected n =
      let e = tree_grown old cur g x x_in in
      let f = tree_grown old cur g s s_in in
      (λ i. selected (e i) (f i) None) ∙ ap (selected (tree_at (trees old) x) (tree_at (trees old) s)) (sym n ∙ ap (λ (c : Bool). if c then pair_in (tree_at (trees old) x) else None) (sym b))

-- ---- as the code takes it apart

pub found_at : (ns : List TermNode) (o q : Option (TermId × TermId)) (x : Option (Tree × Tree)) → o ≡ q → FindsTwo ns o x → FindsTwo ns q x
found_at ns o q x e h = subst (λ (r : Option (TermId × TermId)). FindsTwo ns r x) e h
