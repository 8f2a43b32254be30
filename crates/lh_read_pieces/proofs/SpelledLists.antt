-- Lists by comma: what is found is spelled so, and what is spelled so is found.
use Rattle.std.proofs.Common.{◌≡◌, ℕ, ◌<◌, ◌≤◌, zero, suc, true, false, List, [], ◌∷◌, length, Option, Some, None, nat_eq, refl, ap, ◌∙◌, subst, arith}
use Rattle.lh_unit.specs.Lexemes.{Lexeme, punct}
use Rattle.lh_unit.specs.SpellsParts.{SpellsParts, SpellsList, SpellsBehind}
use Rattle.lh_read_pieces.specs.Pieces.{punct_at, front_part, comma_or_end, part_then, parts_at, empty_or, list_at, behind_or, behind_at}
use Rattle.lh_read_pieces.proofs.Pieces.{punct_at-inv}

-- a list by comma, whose parts are each found where they are spelled
module _ {A : Type 0} (p : List Lexeme → Option (A × List Lexeme)) (P : A → List Lexeme → List Lexeme → Type 0) where
  module _ (sound : (ts : List Lexeme) (r : A × List Lexeme) → p ts ≡ Some r → P r.0 ts r.1) where
    pub parts_at-sound : (k : ℕ) (ts : List Lexeme) (r : List A × List Lexeme) → parts_at p k ts ≡ Some r → SpellsParts P r.0 ts r.1
    parts_at-sound zero ts r e = cc
    parts_at-sound (suc k) ts r e = first (p ts) refl e (parts_at-sound k)
      where
        more : (a : A × List Lexeme) (us : List Lexeme) → p ts ≡ Some a → punct_at 44 a.1 ≡ Some us → (o : Option (List A × List Lexeme)) → parts_at p k us ≡ o → front_part a.0 o ≡ Some r
            → ((vs : List Lexeme) (q : List A × List Lexeme) → parts_at p k vs ≡ Some q → SpellsParts P q.0 vs q.1) → SpellsParts P r.0 ts r.1
        more a us f g None h q s = cc
        more a us f g (Some ([], vs)) h q s = absurd (s us ([], vs) h)
        more a us f g (Some (b ∷ bs, vs)) h q s =
            let e : (a.0 ∷ b ∷ bs) ≡ r.0 = cc in let w : vs ≡ r.1 = cc in
            let x : P a.0 ts (punct 44 ∷ us) = subst (P a.0 ts) (punct_at-inv 44 a.1 us g) (sound ts a f) in
            let y : SpellsParts P (b ∷ bs) us vs = s us (b ∷ bs, vs) h in
            let z : SpellsParts P (a.0 ∷ b ∷ bs) ts vs = (us, x, y) in
            subst (SpellsParts P r.0 ts) w (subst (λ l. SpellsParts P l ts vs) e z)

        comma : (a : A × List Lexeme) → p ts ≡ Some a → (o : Option (List Lexeme)) → punct_at 44 a.1 ≡ o → comma_or_end (parts_at p k) a.0 a.1 o ≡ Some r
            → ((vs : List Lexeme) (q : List A × List Lexeme) → parts_at p k vs ≡ Some q → SpellsParts P q.0 vs q.1) → SpellsParts P r.0 ts r.1
        comma a f None g q s =
            let e : (a.0 ∷ []) ≡ r.0 = cc in let w : a.1 ≡ r.1 = cc in
            subst (SpellsParts P r.0 ts) w (subst (λ l. SpellsParts P l ts a.1) e (sound ts a f))
        comma a f (Some us) g q s = more a us f g (parts_at p k us) refl q s

        first : (o : Option (A × List Lexeme)) → p ts ≡ o → part_then (parts_at p k) o ≡ Some r
            → ((vs : List Lexeme) (q : List A × List Lexeme) → parts_at p k vs ≡ Some q → SpellsParts P q.0 vs q.1) → SpellsParts P r.0 ts r.1
        first None f q s = cc
        first (Some a) f q s = comma a f (punct_at 44 a.1) refl q s

    pub list_at-sound : (c : ℕ) (ts : List Lexeme) (r : List A × List Lexeme) → list_at p c ts ≡ Some r → SpellsList P r.0 ts r.1
    list_at-sound c ts r e = by (punct_at c ts) e
      where
        of_parts : (xs : List A) (us : List Lexeme) → SpellsParts P xs ts us → SpellsList P xs ts us
        of_parts [] us s = absurd s
        of_parts (x ∷ xs) us s = s

        by : (o : Option (List Lexeme)) → empty_or ts (parts_at p (length ts) ts) o ≡ Some r → SpellsList P r.0 ts r.1
        by None q = of_parts r.0 r.1 (parts_at-sound (length ts) ts r q)
        by (Some us) q = let f : [] ≡ r.0 = cc in let g : ts ≡ r.1 = cc in subst (λ l. SpellsList P l ts r.1) f g

    pub behind_at-sound : (ts : List Lexeme) (r : List A × List Lexeme) → behind_at p ts ≡ Some r → SpellsBehind P r.0 ts r.1
    behind_at-sound ts r e = by (punct_at 44 ts) refl e
      where
        of_parts : (xs : List A) (us vs : List Lexeme) → ts ≡ punct 44 ∷ us → SpellsParts P xs us vs → SpellsBehind P xs ts vs
        of_parts [] us vs f s = absurd s
        of_parts (x ∷ xs) us vs f s = (us, f, s)

        by : (o : Option (List Lexeme)) → punct_at 44 ts ≡ o → behind_or p ts o ≡ Some r → SpellsBehind P r.0 ts r.1
        by None f q = let g : [] ≡ r.0 = cc in let h : ts ≡ r.1 = cc in subst (λ l. SpellsBehind P l ts r.1) g h
        by (Some us) f q = of_parts r.0 us r.1 (punct_at-inv 44 ts us f) (parts_at-sound (length us) us r q)

  module _ (again : (a : A) (ts us : List Lexeme) → P a ts us → p ts ≡ Some (a, us)) (shorter : (a : A) (ts us : List Lexeme) → P a ts us → length us < length ts) where
    pub parts_at-again : (k : ℕ) (xs : List A) (ts us : List Lexeme) → SpellsParts P xs ts us → length ts ≤ k → punct_at 44 us ≡ None → parts_at p k ts ≡ Some (xs, us)
    parts_at-again zero [] ts us s h c = absurd s
    parts_at-again zero (x ∷ []) ts us s h c = absurd (omega (arith, shorter x ts us s))
    parts_at-again zero (x ∷ y ∷ xs) ts us s h c = absurd (omega (arith, shorter x ts _ s.1))
    parts_at-again (suc k) [] ts us s h c = absurd s
    parts_at-again (suc k) (x ∷ []) ts us s h c = rw (again x ts us s, c) refl
    parts_at-again (suc k) (x ∷ y ∷ xs) ts us s h c =
        let l : length s.0 ≤ k = omega (arith, shorter x ts (punct 44 ∷ s.0) s.1) in
        let r : parts_at p k s.0 ≡ Some (y ∷ xs, us) = parts_at-again k (y ∷ xs) s.0 us s.2 l c in
        rw (again x ts (punct 44 ∷ s.0) s.1) (ap (front_part x) r)

    pub behind_at-again : (xs : List A) (ts us : List Lexeme) → SpellsBehind P xs ts us → punct_at 44 us ≡ None → behind_at p ts ≡ Some (xs, us)
    behind_at-again [] ts us s c = ap (behind_at p) s ∙ ap (behind_or p us) c
    behind_at-again (x ∷ xs) ts us s c = ap (behind_at p) s.1 ∙ parts_at-again (length s.0) (x ∷ xs) s.0 us s.2 (omega arith) c

    module _ (c : ℕ) (other : nat_eq c 44 ≡ false) (itself : nat_eq c c ≡ true) (begins : (a : A) (ts us : List Lexeme) → P a ts us → punct_at c ts ≡ None) where
      no_comma : (us more : List Lexeme) → us ≡ punct c ∷ more → punct_at 44 us ≡ None
      no_comma us more e = ap (punct_at 44) e ∙ (rw other refl)

      pub list_at-again : (xs : List A) (ts us more : List Lexeme) → SpellsList P xs ts us → us ≡ punct c ∷ more → list_at p c ts ≡ Some (xs, us)
      list_at-again [] ts us more s e =
          let f : punct_at c ts ≡ Some more = ap (punct_at c) (s ∙ e) ∙ (rw itself refl) in
          rw f (ap (λ l. Some ([], l)) s)
      list_at-again (x ∷ []) ts us more s e =
          rw (begins x ts us s) (parts_at-again (length ts) (x ∷ []) ts us s (omega arith) (no_comma us more e))
      list_at-again (x ∷ y ∷ xs) ts us more s e =
          rw (begins x ts _ s.1) (parts_at-again (length ts) (x ∷ y ∷ xs) ts us s (omega arith) (no_comma us more e))
