-- Values by the ids of terms are the names of the terms.
use Rattle.std.proofs.Common.{◌≡◌, ◌<◌, ◌+◌, ℕ, Bool, true, false, if◌then◌else◌, List, [], ◌++◌, length, Option, Some, None, refl, ap, sym, ◌∙◌, subst, arith, length-append, ltb-true, lt-ltb}
use Rattle.std.specs.Prelude.{nat_eq, nat_lt}
use Rattle.std.specs.Option.{option_map}
use Rattle.std.proofs.Math.ListN.{get_or-append}
use Rattle.lh_unit.specs.Naming.{value_text}
use Rattle.lh_unit.specs.declared.inst.ValueId.{ValueId}
use Rattle.lh_term.specs.Tree.{Tree}
use Rattle.lh_term.specs.Arena.{tree_at, trees, IsIn, StandsForTree, OneId, Grows}
use Rattle.lh_term.proofs.Swaps.{tree_grown, in_grown}
use Rattle.lh_types.specs.Same.{nat_eq-refl, nat_eq-is}
use Rattle.lh_term.specs.SameTree.{same_tree, same_tree-is, same_tree-refl}
use Rattle.lh_term.specs.declared.term.TermId.{TermId}
use Rattle.lh_term.specs.declared.term.TermNode.{TermNode}
use Rattle.lh_emit_def.specs.Emitted.{Emitted, with_term}
use Rattle.lh_emit_body.specs.Lines.{naming}
use Rattle.lh_emit.specs.Values.{value_in, KeepsOtherValues, ValuesNameTerms}
use Rattle.lh_emit.specs.declared.values.Values.{Values}

-- the names of values stay as they were where names are added
pub text-more : (names more : List (List ℕ)) (o : Option ValueId) → ((v : ValueId) → o ≡ Some v → v.0 < length names) →
    option_map (value_text (naming (names ++ more))) o ≡ option_map (value_text (naming names)) o
text-more names more None h = refl
text-more names more (Some v) h = ap Some (get_or-append names more [] v.0 (h v refl))

not-below : (a k : ℕ) → nat_lt a k ≡ false → a < k → ⊥
not-below a k b i = let q : nat_lt a k ≡ true = lt-ltb a k i in absurd cc

module _ (ns : List TermNode) (names more : List (List ℕ)) (old new : Values) (e : Emitted) (t : TermId) (v : ValueId) where
  -- the value of one more term
  pub knows-kept : OneId ns → IsIn ns t → ValuesNameTerms ns names old e → v.0 < length (names ++ more) → KeepsOtherValues old t v new → (terms : Tree → Option (List ℕ)) →
      terms ≡ with_term e.terms (tree_at (trees ns) t) (value_text (naming (names ++ more)) v) → ValuesNameTerms ns (names ++ more) new record e { terms = terms }
  knows-kept one is_in k w keeps terms q = record {
    named = λ x h. ap (λ f. f (tree_at (trees ns) x)) q ∙ named x h (nat_eq x.0 t.0) refl ∙ ap (option_map (value_text (naming (names ++ more)))) (sym (keeps x));
    within = λ x u h. within x u (nat_eq x.0 t.0) (sym (keeps x) ∙ h);
    held = λ x u h. held x u (nat_eq x.0 t.0) refl (sym (keeps x) ∙ h);
    among = λ y n h. among y n (same_tree (tree_at (trees ns) t) y) refl (sym (ap (λ f. f y) q) ∙ h);
  }
    where
      n2 : List ℕ
      n2 = value_text (naming (names ++ more)) v

      named : (x : TermId) → IsIn ns x → (b : Bool) → nat_eq x.0 t.0 ≡ b →
          with_term e.terms (tree_at (trees ns) t) n2 (tree_at (trees ns) x) ≡ option_map (value_text (naming (names ++ more))) (if b then Some v else value_in old x)
      named x h true p =
          let d : x.0 ≡ t.0 = nat_eq-is x.0 t.0 p in
          let f : tree_at (trees ns) t ≡ tree_at (trees ns) x = ap (λ (z : ℕ). tree_at (trees ns) (record { 0 = z })) (sym d) in
          let g : same_tree (tree_at (trees ns) t) (tree_at (trees ns) x) ≡ true = ap (same_tree (tree_at (trees ns) t)) (sym f) ∙ same_tree-refl (tree_at (trees ns) t) in
          ap (λ (b : Bool). if b then Some n2 else e.terms (tree_at (trees ns) x)) g
      named x h false p = apart (same_tree (tree_at (trees ns) t) (tree_at (trees ns) x)) refl
        where
          apart : (b : Bool) → same_tree (tree_at (trees ns) t) (tree_at (trees ns) x) ≡ b →
              (if b then Some n2 else e.terms (tree_at (trees ns) x)) ≡ option_map (value_text (naming (names ++ more))) (value_in old x)
          apart true g =
              let d : t ≡ x = one t x is_in h (same_tree-is (tree_at (trees ns) t) (tree_at (trees ns) x) g) in
              let z : nat_eq x.0 t.0 ≡ true = ap (λ (y : TermId). nat_eq x.0 y.0) d ∙ nat_eq-refl x.0 in absurd cc
          apart false g = k.named x h ∙ sym (text-more names more (value_in old x) (k.within x))

      within : (x : TermId) (u : ValueId) (b : Bool) → (if b then Some v else value_in old x) ≡ Some u → u.0 < length (names ++ more)
      within x u true h = let d : v ≡ u = cc in subst (λ (z : ValueId). z.0 < length (names ++ more)) d w
      within x u false h = let d : u.0 < length names = k.within x u h in omega (arith, d, length-append names more)

      held : (x : TermId) (u : ValueId) (b : Bool) → nat_eq x.0 t.0 ≡ b → (if b then Some v else value_in old x) ≡ Some u → IsIn ns x
      held x u true p h = let d : x.0 ≡ t.0 = nat_eq-is x.0 t.0 p in omega (arith, d, is_in)
      held x u false p h = k.held x u h

      among : (y : Tree) (n : List ℕ) (b : Bool) → same_tree (tree_at (trees ns) t) y ≡ b → (if b then Some n2 else e.terms y) ≡ Some n → (x : TermId) × StandsForTree ns x y
      among y n true g h = (t, record { is_in = is_in; tree = same_tree-is (tree_at (trees ns) t) y g })
      among y n false g h = k.among y n h

-- more names, and another entity with the same terms
pub knows-more : (ns : List TermNode) (names more : List (List ℕ)) (vs : Values) (e x : Emitted) → ValuesNameTerms ns names vs e → x.terms ≡ e.terms → ValuesNameTerms ns (names ++ more) vs x
knows-more ns names more vs e x k q = record {
  named = λ y h. ap (λ f. f (tree_at (trees ns) y)) q ∙ k.named y h ∙ sym (text-more names more (value_in vs y) (k.within y));
  within = λ y v h. let d : v.0 < length names = k.within y v h in omega (arith, d, length-append names more);
  held = k.held;
  among = λ t n h. k.among t n (sym (ap (λ f. f t) q) ∙ h);
}

-- no term has a value
pub knows-none : (ns : List TermNode) (names : List (List ℕ)) (vs : Values) (e : Emitted) → ((x : TermId) → value_in vs x ≡ None) → ((t : Tree) → e.terms t ≡ None) → ValuesNameTerms ns names vs e
knows-none ns names vs e none empty = record {
  named = λ x h. empty (tree_at (trees ns) x) ∙ sym (ap (option_map (value_text (naming names))) (none x));
  within = λ x v h. let z = none x in absurd cc;
  held = λ x v h. let z = none x in absurd cc;
  among = λ t n h. let z = empty t in absurd cc;
}

-- terms that are added have no value
module _ (ns ms : List TermNode) (g : Grows ns ms) (one : OneId ms) (names : List (List ℕ)) (vs : Values) (e : Emitted) where
  pub knows-grown : ValuesNameTerms ns names vs e → ValuesNameTerms ms names vs e
  knows-grown k = record {
    named = λ x h. at x h (nat_lt x.0 (length ns)) refl;
    within = k.within;
    held = λ x v h. in_grown ns ms g x (k.held x v h);
    among = λ t n h. let (x, w) = k.among t n h in (x, record { is_in = in_grown ns ms g x w.is_in; tree = tree_grown ns ms g x w.is_in ∙ w.tree });
  }
    where
      new : (x : TermId) → IsIn ms x → (IsIn ns x → ⊥) → (o : Option (List ℕ)) → e.terms (tree_at (trees ms) x) ≡ o → (w : Option ValueId) → value_in vs x ≡ w
          → o ≡ option_map (value_text (naming names)) w
      new x h out o p (Some v) q = absurd (out (k.held x v q))
      new x h out None p None q = refl
      new x h out (Some n) p None q =
          let (y, w) = k.among (tree_at (trees ms) x) n p in
          let d : y ≡ x = one y x (in_grown ns ms g y w.is_in) h (tree_grown ns ms g y w.is_in ∙ w.tree) in
          absurd (out (subst (IsIn ns) d w.is_in))

      at : (x : TermId) → IsIn ms x → (b : Bool) → nat_lt x.0 (length ns) ≡ b → e.terms (tree_at (trees ms) x) ≡ option_map (value_text (naming names)) (value_in vs x)
      at x h true b = let i : x.0 < length ns = ltb-true x.0 (length ns) b in ap e.terms (tree_grown ns ms g x i) ∙ k.named x i
      at x h false b = new x h (λ i. not-below x.0 (length ns) b i) (e.terms (tree_at (trees ms) x)) refl (value_in vs x) refl
