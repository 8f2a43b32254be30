-- Operations on the values of terms say what the definition's say.
use Rattle.std.proofs.Common.{◌≡◌, ℕ, zero, suc, ◌+◌, ◌<◌, ◌≤◌, Bool, true, false, if◌then◌else◌, List, [], ◌∷◌, ◌++◌, length, map, drop, get_or, Option, Some, None, refl, ap, sym, ◌∙◌, arith, append_assoc, is_some, add-one, ltb-true}
use Rattle.std.proofs.lemmas.List.{map-append, append-nil}
use Rattle.std.specs.Prelude.{unwrap_or, nat_lt}
use Rattle.std.specs.Option.{option_map}
use Rattle.lh_types.specs.Types.{TypeTree}
use Rattle.lh_types.specs.declared.op.Op.{Op}
use Rattle.lh_unit.specs.Contents.{pure_text}
use Rattle.lh_unit.specs.Naming.{Naming, value_text, operand_text, inst_text}
use Rattle.lh_unit.specs.Within.{Each, OperandWithin}
use Rattle.lh_unit.specs.declared.inst.Typed.{Typed}
use Rattle.lh_unit.specs.declared.inst.ValueId.{ValueId}
use Rattle.lh_unit.specs.declared.inst.Inst.TheVariants as inst
use Rattle.lh_term.specs.Tree.{Tree}
use Rattle.lh_term.specs.Types.{type_of, first_of, row_result}
use Rattle.lh_term.specs.Arena.{trees, tree_at, trees_at, ids_below, IsIn, AreIn}
use Rattle.lh_term.specs.declared.term.TermId.{TermId}
use Rattle.lh_term.specs.declared.term.TermNode.{TermNode}
use Rattle.lh_types.specs.Same.{and_both}
use Rattle.lh_emit_def.specs.Emitted.{Emitted, term_name, bare}
use Rattle.lh_emit_def.specs.Needs.{writes_each, writes_result, types_of_all, each_typed, first_typed, operation_text}
use Rattle.lh_emit_body.specs.Lines.{naming, values_alone}
use Rattle.lh_emit.specs.Operands.{with_type, without_type, first_with_type}
use Rattle.lh_emit.specs.Operations.{HaveValues, AreValues, each_with_type, operands_of}
use Rattle.lh_emit.specs.Tasks.{HasName}
use Rattle.lh_emit.specs.Values.{value_in, ValuesNameTerms}
use Rattle.lh_emit.specs.declared.values.Values.{Values}

-- ---- one operand after the other

pub each-in : (ns : List TermNode) (xs : List TermId) (k : ℕ) → AreIn ns xs → k < length xs → IsIn ns (get_or xs k (record { 0 = 0 }))
each-in ns [] k h l = absurd (omega (arith, l))
each-in ns (x ∷ xs) zero h l = ltb-true x.0 (length ns) (and_both (nat_lt x.0 (length ns)) (ids_below (length ns) xs) h).0
each-in ns (x ∷ xs) (suc k) h l = each-in ns xs k (and_both (nat_lt x.0 (length ns)) (ids_below (length ns) xs) h).1 (omega (arith, l))

each-suc : (ns : List TermNode) (xs : List TermId) (vs : List ValueId) (k : ℕ) (d : TermId) (w : ValueId) → k < length vs → length vs ≡ length xs →
    each_with_type ns (drop k xs) (drop k vs) ≡ with_type (type_of (tree_at (trees ns) (get_or xs k d))) (get_or vs k w) ∷ each_with_type ns (drop (suc k) xs) (drop (suc k) vs)
each-suc ns [] [] k d w l e = absurd (omega (arith, l))
each-suc ns [] (v ∷ vs) k d w l e = absurd (omega (arith, e))
each-suc ns (x ∷ xs) [] k d w l e = absurd (omega (arith, l))
each-suc ns (x ∷ xs) (v ∷ vs) zero d w l e = refl
each-suc ns (x ∷ xs) (v ∷ vs) (suc k) d w l e = each-suc ns xs vs k d w (omega (arith, l)) (omega (arith, e))

-- one more operand of those that are left
pub each-next : (ns : List TermNode) (xs : List TermId) (vs : List ValueId) (k : ℕ) (so_far more all : List Typed) (d : TermId) (w : ValueId) → k < length vs → length vs ≡ length xs →
    so_far ++ each_with_type ns (drop k xs) (drop k vs) ≡ all → more ≡ so_far ++ with_type (type_of (tree_at (trees ns) (get_or xs k d))) (get_or vs k w) ∷ [] →
    more ++ each_with_type ns (drop (k + 1) xs) (drop (k + 1) vs) ≡ all
each-next ns xs vs k so_far more all d w l e h q =
    let j : k + 1 ≡ suc k = add-one k in
    let one : Typed = with_type (type_of (tree_at (trees ns) (get_or xs k d))) (get_or vs k w) in
    (λ i. q i ++ each_with_type ns (drop (j i) xs) (drop (j i) vs))
    ∙ append_assoc so_far (one ∷ []) (each_with_type ns (drop (suc k) xs) (drop (suc k) vs))
    ∙ ap (λ ts. so_far ++ ts) (sym (each-suc ns xs vs k d w l e)) ∙ h

each-end : (ns : List TermNode) (xs : List TermId) (vs : List ValueId) (k : ℕ) → length vs ≤ k → each_with_type ns (drop k xs) (drop k vs) ≡ []
each-end ns [] [] zero h = refl
each-end ns (x ∷ xs) [] zero h = refl
each-end ns [] (v ∷ vs) zero h = absurd (omega (arith, h))
each-end ns (x ∷ xs) (v ∷ vs) zero h = absurd (omega (arith, h))
each-end ns [] [] (suc k) h = refl
each-end ns [] (v ∷ vs) (suc k) h = refl
each-end ns (x ∷ xs) [] (suc k) h = none (drop k xs)
  where
    none : (ys : List TermId) → each_with_type ns ys [] ≡ []
    none [] = refl
    none (y ∷ ys) = refl
each-end ns (x ∷ xs) (v ∷ vs) (suc k) h = each-end ns xs vs k (omega (arith, h))

pub each-all : (ns : List TermNode) (xs : List TermId) (vs : List ValueId) (k : ℕ) (all : List Typed) → length vs ≤ k → all ++ each_with_type ns (drop k xs) (drop k vs) ≡ each_with_type ns xs vs
    → all ≡ each_with_type ns xs vs
each-all ns xs vs k all l h = sym (append-nil all) ∙ ap (λ ts. all ++ ts) (sym (each-end ns xs vs k l)) ∙ h

-- ---- values of terms

pub has-value : (vs : Values) (xs : List TermId) (k : ℕ) (d : TermId) → HaveValues vs xs → k < length xs → is_some (value_in vs (get_or xs k d)) ≡ true
has-value vs [] k d h l = absurd (omega (arith, l))
has-value vs (x ∷ xs) zero d h l = h.0
has-value vs (x ∷ xs) (suc k) d h l = has-value vs xs k d h.1 (omega (arith, l))

value-suc : (vs : Values) (xs : List TermId) (k : ℕ) (d : TermId) → k < length xs → map (value_in vs) (drop k xs) ≡ value_in vs (get_or xs k d) ∷ map (value_in vs) (drop (suc k) xs)
value-suc vs [] k d l = absurd (omega (arith, l))
value-suc vs (x ∷ xs) zero d l = refl
value-suc vs (x ∷ xs) (suc k) d l = value-suc vs xs k d (omega (arith, l))

-- one more value of those that are left
pub value-next : (vs : Values) (xs : List TermId) (k : ℕ) (so_far more : List ValueId) (v : ValueId) (d : TermId) → k < length xs →
    map Some so_far ++ map (value_in vs) (drop k xs) ≡ map (value_in vs) xs → Some v ≡ value_in vs (get_or xs k d) → more ≡ so_far ++ v ∷ [] →
    map Some more ++ map (value_in vs) (drop (k + 1) xs) ≡ map (value_in vs) xs
value-next vs xs k so_far more v d l h e q =
    let j : k + 1 ≡ suc k = add-one k in
    let m : map Some more ≡ map Some so_far ++ Some v ∷ [] = ap (map Some) q ∙ map-append Some so_far (v ∷ []) in
    (λ i. m i ++ map (value_in vs) (drop (j i) xs))
    ∙ append_assoc (map Some so_far) (Some v ∷ []) (map (value_in vs) (drop (suc k) xs))
    ∙ ap (λ ts. map Some so_far ++ ts) ((λ i. e i ∷ map (value_in vs) (drop (suc k) xs)) ∙ sym (value-suc vs xs k d l)) ∙ h

value-end : (vs : Values) (xs : List TermId) (k : ℕ) → length xs ≤ k → map (value_in vs) (drop k xs) ≡ []
value-end vs [] zero l = refl
value-end vs [] (suc k) l = refl
value-end vs (x ∷ xs) zero l = absurd (omega (arith, l))
value-end vs (x ∷ xs) (suc k) l = value-end vs xs k (omega (arith, l))

pub value-all : (vs : Values) (xs : List TermId) (k : ℕ) (all : List ValueId) → length xs ≤ k → map Some all ++ map (value_in vs) (drop k xs) ≡ map (value_in vs) xs → AreValues vs xs all
value-all vs xs k all l h = sym (append-nil (map Some all)) ∙ ap (λ ts. map Some all ++ ts) (sym (value-end vs xs k l)) ∙ h

pub no-operands : (xs : List TermId) (vs : List ValueId) (d : TypeTree) → length vs ≡ length xs → length xs < 1 → [] ≡ first_with_type d vs
no-operands xs [] d e l = refl
no-operands xs (v ∷ vs) d e l = absurd (omega (arith, e, l))

module _ (ns : List TermNode) (names : List (List ℕ)) (vs : Values) (e : Emitted) (k : ValuesNameTerms ns names vs e) where
  -- terms that were emitted have values
  pub have-value : (x : TermId) → IsIn ns x → HasName e (tree_at (trees ns) x) → is_some (value_in vs x) ≡ true
  have-value x h (n, q) = at (value_in vs x) refl
    where
      at : (o : Option ValueId) → value_in vs x ≡ o → is_some (value_in vs x) ≡ true
      at None p = let z : e.terms (tree_at (trees ns) x) ≡ None = k.named x h ∙ ap (option_map (value_text (naming names))) p in absurd cc
      at (Some v) p = ap is_some p

  pub have-values : (xs : List TermId) → AreIn ns xs → Each (HasName e) (trees_at ns xs) → HaveValues vs xs
  have-values [] h q = tt
  have-values (x ∷ xs) h q =
      let b = and_both (nat_lt x.0 (length ns)) (ids_below (length ns) xs) h in
      (have-value x (ltb-true x.0 (length ns) b.0) q.0, have-values xs b.1 q.1)

  -- the name of a term is that of its value
  pub value-named : (x : TermId) (v : ValueId) → IsIn ns x → Some v ≡ value_in vs x → (value_text (naming names) v ≡ term_name e (tree_at (trees ns) x)) × (v.0 < length names)
  value-named x v h q = (
    ap (λ o. unwrap_or o []) (ap (option_map (value_text (naming names))) q ∙ sym (k.named x h)),
    k.within x v (sym q),
  )

  pub values-named : (xs : List TermId) (given : List ValueId) → AreIn ns xs → AreValues vs xs given →
      (map (value_text (naming names)) given ≡ map (term_name e) (trees_at ns xs)) × Each (λ (v : ValueId). v.0 < length names) given
  values-named [] [] h q = (refl, tt)
  values-named [] (v ∷ given) h q = absurd cc
  values-named (x ∷ xs) [] h q = absurd cc
  values-named (x ∷ xs) (v ∷ given) h q =
      let b = and_both (nat_lt x.0 (length ns)) (ids_below (length ns) xs) h in
      let p : Some v ≡ value_in vs x = cc in
      let r : map Some given ≡ map (value_in vs) xs = cc in
      let one = value-named x v (ltb-true x.0 (length ns) b.0) p in
      let more = values-named xs given b.1 r in
      ((λ i. one.0 i ∷ more.0 i), (one.1, more.1))

-- ---- texts

module _ (f : Naming) (e : Emitted) where
  bare-text : (vs : List ValueId) (ts : List Tree) → map (value_text f) vs ≡ map (term_name e) ts → map (operand_text f) (map without_type vs) ≡ map (λ u. bare (term_name e u)) ts
  bare-text [] [] q = refl
  bare-text [] (t ∷ ts) q = absurd cc
  bare-text (v ∷ vs) [] q = absurd cc
  bare-text (v ∷ vs) (t ∷ ts) q =
      let p : value_text f v ≡ term_name e t = cc in
      let r : map (value_text f) vs ≡ map (term_name e) ts = cc in
      let m = bare-text vs ts r in
      λ i. record { value = p i; ty = None } ∷ m i

  first-text : (d : TypeTree) (vs : List ValueId) (ts : List Tree) → map (value_text f) vs ≡ map (term_name e) ts → map (operand_text f) (first_with_type d vs) ≡ first_typed e d ts
  first-text d [] [] q = refl
  first-text d [] (t ∷ ts) q = absurd cc
  first-text d (v ∷ vs) [] q = absurd cc
  first-text d (v ∷ vs) (t ∷ ts) q =
      let p : value_text f v ≡ term_name e t = cc in
      let r : map (value_text f) vs ≡ map (term_name e) ts = cc in
      let m = bare-text vs ts r in
      λ i. record { value = p i; ty = Some d } ∷ m i

  each-text : (ns : List TermNode) (xs : List TermId) (vs : List ValueId) → map (value_text f) vs ≡ map (term_name e) (trees_at ns xs)
      → map (operand_text f) (each_with_type ns xs vs) ≡ each_typed e (trees_at ns xs)
  each-text ns [] vs q = refl
  each-text ns (x ∷ xs) [] q = absurd cc
  each-text ns (x ∷ xs) (v ∷ vs) q =
      let p : value_text f v ≡ term_name e (tree_at (trees ns) x) = cc in
      let r : map (value_text f) vs ≡ map (term_name e) (trees_at ns xs) = cc in
      let m = each-text ns xs vs r in
      λ i. record { value = p i; ty = Some (type_of (tree_at (trees ns) x)) } ∷ m i

  -- the operation on the values is the operation on the terms
  pub operation-same : (ns : List TermNode) (op : Op) (xs : List TermId) (d : TypeTree) (vs : List ValueId) → map (value_text f) vs ≡ map (term_name e) (trees_at ns xs) →
      (writes_result op ≡ true → d ≡ row_result op (types_of_all (trees_at ns xs))) → inst_text f (inst.Pure op (operands_of ns op xs d vs)) ≡ operation_text e op (trees_at ns xs)
  operation-same ns op xs d vs q w = ap (pure_text op) (at (writes_each op) (writes_result op) refl refl)
    where
      at : (a b : Bool) → writes_each op ≡ a → writes_result op ≡ b →
          map (operand_text f) (if a then each_with_type ns xs vs else first_with_type (if b then d else first_of (types_of_all (trees_at ns xs))) vs)
          ≡ (if a then each_typed e (trees_at ns xs) else first_typed e (if b then row_result op (types_of_all (trees_at ns xs)) else first_of (types_of_all (trees_at ns xs))) (trees_at ns xs))
      at true b p r = each-text ns xs vs q
      at false true p r = first-text d vs (trees_at ns xs) q ∙ ap (λ t. first_typed e t (trees_at ns xs)) (w r)
      at false false p r = first-text (first_of (types_of_all (trees_at ns xs))) vs (trees_at ns xs) q

-- ---- ids

bare-within : (n : ℕ) (vs : List ValueId) → Each (λ (v : ValueId). v.0 < n) vs → Each (OperandWithin (values_alone n)) (map without_type vs)
bare-within n [] h = tt
bare-within n (v ∷ vs) h = (h.0, bare-within n vs h.1)

first-within : (n : ℕ) (d : TypeTree) (vs : List ValueId) → Each (λ (v : ValueId). v.0 < n) vs → Each (OperandWithin (values_alone n)) (first_with_type d vs)
first-within n d [] h = tt
first-within n d (v ∷ vs) h = (h.0, bare-within n vs h.1)

each-within : (n : ℕ) (ns : List TermNode) (xs : List TermId) (vs : List ValueId) → Each (λ (v : ValueId). v.0 < n) vs → Each (OperandWithin (values_alone n)) (each_with_type ns xs vs)
each-within n ns [] vs h = tt
each-within n ns (x ∷ xs) [] h = tt
each-within n ns (x ∷ xs) (v ∷ vs) h = (h.0, each-within n ns xs vs h.1)

pub operands-within : (n : ℕ) (ns : List TermNode) (op : Op) (xs : List TermId) (d : TypeTree) (vs : List ValueId) → Each (λ (v : ValueId). v.0 < n) vs
    → Each (OperandWithin (values_alone n)) (operands_of ns op xs d vs)
operands-within n ns op xs d vs h = at (writes_each op)
  where
    at : (a : Bool) → Each (OperandWithin (values_alone n)) (if a then each_with_type ns xs vs else first_with_type (if writes_result op then d else first_of (types_of_all (trees_at ns xs))) vs)
    at true = each-within n ns xs vs h
    at false = first-within n (if writes_result op then d else first_of (types_of_all (trees_at ns xs))) vs h
