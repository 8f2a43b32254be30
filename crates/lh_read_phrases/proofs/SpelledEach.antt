-- Lists whose parts are seen through a map, and lists whose parts all pass a test.
use Rattle.std.proofs.Common.{◌≡◌, Bool, true, List, [], ◌∷◌, map, refl}
use Rattle.std.specs.List.{list_all}
use Rattle.std.proofs.lemmas.Bool.{and_parts, and_from}
use Rattle.lh_unit.specs.Lexemes.{Lexeme}
use Rattle.lh_unit.specs.SpellsParts.{SpellsParts, SpellsList}

-- parts that are seen through f
module _ {A B : Type 0} (f : A → B) (P : B → List Lexeme → List Lexeme → Type 0) where
  pub parts_mapped : (xs : List A) (ts us : List Lexeme) → SpellsParts (λ a. P (f a)) xs ts us → SpellsParts P (map f xs) ts us
  parts_mapped [] ts us s = s
  parts_mapped (x ∷ []) ts us s = s
  parts_mapped (x ∷ y ∷ xs) ts us s = (s.0, s.1, parts_mapped (y ∷ xs) s.0 us s.2)

  pub list_mapped : (xs : List A) (ts us : List Lexeme) → SpellsList (λ a. P (f a)) xs ts us → SpellsList P (map f xs) ts us
  list_mapped [] ts us s = s
  list_mapped (x ∷ xs) ts us s = parts_mapped (x ∷ xs) ts us s

  pub parts_unmapped : (xs : List A) (ts us : List Lexeme) → SpellsParts P (map f xs) ts us → SpellsParts (λ a. P (f a)) xs ts us
  parts_unmapped [] ts us s = s
  parts_unmapped (x ∷ []) ts us s = s
  parts_unmapped (x ∷ y ∷ xs) ts us s = (s.0, s.1, parts_unmapped (y ∷ xs) s.0 us s.2)

  pub list_unmapped : (xs : List A) (ts us : List Lexeme) → SpellsList P (map f xs) ts us → SpellsList (λ a. P (f a)) xs ts us
  list_unmapped [] ts us s = s
  list_unmapped (x ∷ xs) ts us s = parts_unmapped (x ∷ xs) ts us s

-- parts of which something more holds, as a test says
module _ {A : Type 0} (P : A → List Lexeme → List Lexeme → Type 0) (Q : A → Type 0) (q : A → Bool) where
  module _ (shown : (a : A) → q a ≡ true → Q a) where
    parts_with : (xs : List A) (ts us : List Lexeme) → list_all q xs ≡ true → SpellsParts P xs ts us → SpellsParts (λ a vs ws. Q a × P a vs ws) xs ts us
    parts_with [] ts us e s = s
    parts_with (x ∷ []) ts us e s = (shown x (and_parts (q x) true e).0, s)
    parts_with (x ∷ y ∷ xs) ts us e s = let b = and_parts (q x) (list_all q (y ∷ xs)) e in (s.0, (shown x b.0, s.1), parts_with (y ∷ xs) s.0 us b.1 s.2)

    pub list_with : (xs : List A) (ts us : List Lexeme) → list_all q xs ≡ true → SpellsList P xs ts us → SpellsList (λ a vs ws. Q a × P a vs ws) xs ts us
    list_with [] ts us e s = s
    list_with (x ∷ xs) ts us e s = parts_with (x ∷ xs) ts us e s

  module _ (tested : (a : A) → Q a → q a ≡ true) where
    parts_each : (xs : List A) (ts us : List Lexeme) → SpellsParts (λ a vs ws. Q a × P a vs ws) xs ts us → list_all q xs ≡ true
    parts_each [] ts us s = absurd s
    parts_each (x ∷ []) ts us s = and_from (q x) true (tested x s.0) refl
    parts_each (x ∷ y ∷ xs) ts us s = and_from (q x) (list_all q (y ∷ xs)) (tested x s.1.0) (parts_each (y ∷ xs) s.0 us s.2)

    pub list_each : (xs : List A) (ts us : List Lexeme) → SpellsList (λ a vs ws. Q a × P a vs ws) xs ts us → list_all q xs ≡ true
    list_each [] ts us s = refl
    list_each (x ∷ xs) ts us s = parts_each (x ∷ xs) ts us s

  parts_without : (xs : List A) (ts us : List Lexeme) → SpellsParts (λ a vs ws. Q a × P a vs ws) xs ts us → SpellsParts P xs ts us
  parts_without [] ts us s = s
  parts_without (x ∷ []) ts us s = s.1
  parts_without (x ∷ y ∷ xs) ts us s = (s.0, s.1.1, parts_without (y ∷ xs) s.0 us s.2)

  pub list_without : (xs : List A) (ts us : List Lexeme) → SpellsList (λ a vs ws. Q a × P a vs ws) xs ts us → SpellsList P xs ts us
  list_without [] ts us s = s
  list_without (x ∷ xs) ts us s = parts_without (x ∷ xs) ts us s
