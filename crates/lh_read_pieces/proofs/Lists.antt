-- A list by comma, part after part.
use Rattle.std.proofs.Common.{◌≡◌, ℕ, ◌+◌, ◌-◌, ◌<◌, ◌≤◌, zero, suc, List, [], ◌∷◌, ◌++◌, length, Option, Some, None, refl, ap, sym, ◌∙◌, arith, append_assoc, length-append}
use Rattle.lh_unit.specs.Lexemes.{Lexeme}
use Rattle.lh_read_pieces.specs.Pieces.{punct_at, front_part, comma_or_end, part_then, parts_at}
use Rattle.lh_read_pieces.proofs.Pieces.{punct_at-inv}

-- the parts found so far in front of what is found yet
abbrev pub fronts : {A : Type 0} → List A → Option (List A × List Lexeme) → Option (List A × List Lexeme)
fronts xs None = None
fronts xs (Some r) = Some (xs ++ r.0, r.1)

fronts-none : {A : Type 0} (o : Option (List A × List Lexeme)) → fronts [] o ≡ o
fronts-none None = refl
fronts-none (Some r) = refl

fronts-push : {A : Type 0} (xs : List A) (a : A) (o : Option (List A × List Lexeme)) → fronts (xs ++ a ∷ []) o ≡ fronts xs (front_part a o)
fronts-push xs a None = refl
fronts-push xs a (Some r) = ap (λ l. Some (l, r.1)) (append_assoc xs (a ∷ []) r.0)

module _ {A : Type 0} (p : List Lexeme → Option (A × List Lexeme)) where
  -- how far the list is read
  pub record At (all rest : List Lexeme) (xs : List A) : Type 0 where
    pub is : fronts xs (parts_at p (length all - length xs) rest) ≡ parts_at p (length all) all
    pub few : length rest + length xs ≤ length all

  pub At-start : (all : List Lexeme) → At all all []
  At-start all = let e : length all - 0 ≡ length all = omega arith in record { is = fronts-none (parts_at p (length all - 0) all) ∙ ap (λ k. parts_at p k all) e; few = omega arith }

  parts_at-one : (k : ℕ) (ts : List Lexeme) → 1 ≤ k → parts_at p k ts ≡ part_then (parts_at p (k - 1)) (p ts)
  parts_at-one zero ts h = absurd (omega arith)
  parts_at-one (suc k) ts h = let e : suc k - 1 ≡ k = omega arith in rw e refl

  parts_at-nothing : (k : ℕ) (ts : List Lexeme) → p ts ≡ None → parts_at p k ts ≡ None
  parts_at-nothing zero ts e = refl
  parts_at-nothing (suc k) ts e = ap (part_then (parts_at p k)) e

  pub At-none : (all rest : List Lexeme) (xs : List A) → At all rest xs → p rest ≡ None → parts_at p (length all) all ≡ None
  At-none all rest xs w e = sym w.is ∙ ap (fronts xs) (parts_at-nothing (length all - length xs) rest e)

  -- one more part is found
  more_found : (all rest more : List Lexeme) (xs : List A) (a : A) → At all rest xs → p rest ≡ Some (a, more) → length more < length rest
      → fronts xs (comma_or_end (parts_at p (length all - length xs - 1)) a more (punct_at 44 more)) ≡ parts_at p (length all) all
  more_found all rest more xs a w e l =
      let h : 1 ≤ length all - length xs = omega (arith, w.few) in
      sym (ap (fronts xs) (parts_at-one (length all - length xs) rest h ∙ ap (part_then (parts_at p (length all - length xs - 1))) e)) ∙ w.is

  pub At-next : (all rest more next : List Lexeme) (xs : List A) (a : A) → At all rest xs → p rest ≡ Some (a, more) → length more < length rest → punct_at 44 more ≡ Some next
      → At all next (xs ++ a ∷ [])
  At-next all rest more next xs a w e l c =
      let n : length (xs ++ a ∷ []) ≡ length xs + 1 = length-append xs (a ∷ []) in
      let k : length all - length (xs ++ a ∷ []) ≡ length all - length xs - 1 = omega (arith, n) in
      record {
        is = ap (λ j. fronts (xs ++ a ∷ []) (parts_at p j next)) k ∙ fronts-push xs a (parts_at p (length all - length xs - 1) next)
            ∙ ap (λ o. fronts xs (comma_or_end (parts_at p (length all - length xs - 1)) a more o)) (sym c) ∙ more_found all rest more xs a w e l;
        few = omega (arith, n, w.few, l, ap length (punct_at-inv 44 more next c));
      }

  pub At-end : (all rest more : List Lexeme) (xs : List A) (a : A) → At all rest xs → p rest ≡ Some (a, more) → length more < length rest → punct_at 44 more ≡ None
      → parts_at p (length all) all ≡ Some (xs ++ a ∷ [], more)
  At-end all rest more xs a w e l c =
      sym (ap (λ o. fronts xs (comma_or_end (parts_at p (length all - length xs - 1)) a more o)) (sym c) ∙ more_found all rest more xs a w e l)
