-- Sets of bits, as lists of their numbers.
use Rattle.std.proofs.Common.{◌≡◌, ℕ, List, [], ◌∷◌, map, Bool, true, false, not, ◌&&◌, ◌||◌, ◌==◌, refl, ap, sym, ◌∙◌, arith}
use Rattle.std.specs.List.{list_any}
use Rattle.std.specs.Cmp.{both_ways}
use Rattle.std.proofs.lemmas.Bool.Decides.{nat_tests}
use Rattle.lh_unit.specs.World.{bit_at, bit_differs}

-- it is one of these
abbrev pub has : List ℕ → ℕ → Bool
has xs a = list_any (λ x. x == a) xs

-- the same numbers, in any order and however often
abbrev pub SameSet : List ℕ → List ℕ → Type 0
SameSet xs ys = (a : ℕ) → has xs a ≡ has ys a

abbrev pub IsWithin : List ℕ → List ℕ → Type 0
IsWithin xs ys = (a : ℕ) → has xs a ≡ true → has ys a ≡ true

-- one of them, with the test
pub any_of : (p : ℕ → Bool) (xs : List ℕ) → list_any p xs ≡ true → (a : ℕ) × (has xs a ≡ true) × (p a ≡ true)
any_of p [] h = cc
any_of p (x ∷ xs) h = at (p x) refl h (any_of p xs)
  where
    here : (x : ℕ) → (x == x) ≡ true
    here x = grind (arith, nat_tests)

    at : (b : Bool) → p x ≡ b → (b || list_any p xs) ≡ true → (list_any p xs ≡ true → (a : ℕ) × (has xs a ≡ true) × (p a ≡ true)) → (a : ℕ) × (has (x ∷ xs) a ≡ true) × (p a ≡ true)
    at true e h' ih = (x, ap (λ b. b || has xs x) (here x), e)
    at false e h' ih = let r = ih h' in (r.0, more (x == r.0) r.1, r.2)
      where
        more : {c : Bool} (b : Bool) → c ≡ true → (b || c) ≡ true
        more true q = refl
        more false q = q

pub any_from : (p : ℕ → Bool) (xs : List ℕ) (a : ℕ) → has xs a ≡ true → p a ≡ true → list_any p xs ≡ true
any_from p [] a h q = cc
any_from p (x ∷ xs) a h q = at (x == a) refl h (λ h'. any_from p xs a h' q)
  where
    is : (x == a) ≡ true → x ≡ a
    is e = grind (arith, nat_tests)

    at : (b : Bool) → (x == a) ≡ b → (b || has xs a) ≡ true → (has xs a ≡ true → list_any p xs ≡ true) → (p x || list_any p xs) ≡ true
    at true e h' ih = ap (λ b. b || list_any p xs) (ap p (is e) ∙ q)
    at false e h' ih = more (p x) (ih h')
      where
        more : {c : Bool} (b : Bool) → c ≡ true → (b || c) ≡ true
        more true q = refl
        more false q = q

pub same_any : (p : ℕ → Bool) (xs ys : List ℕ) → SameSet xs ys → list_any p xs ≡ list_any p ys
same_any p xs ys s = both_ways (list_any p xs) (list_any p ys)
    (λ h. let r = any_of p xs h in any_from p ys r.0 (sym (s r.0) ∙ r.1) r.2)
    (λ h. let r = any_of p ys h in any_from p xs r.0 (s r.0 ∙ r.1) r.2)

pub any_within : (p : ℕ → Bool) (xs ys : List ℕ) → IsWithin xs ys → list_any p xs ≡ true → list_any p ys ≡ true
any_within p xs ys w h = let r = any_of p xs h in any_from p ys r.0 (w r.0 r.1) r.2

-- it is there once the list begins with it, or goes on with it
has_tail : (x : ℕ) (xs : List ℕ) (a : ℕ) → has xs a ≡ true → has (x ∷ xs) a ≡ true
has_tail x xs a h = more (x == a) h
  where
    more : {c : Bool} (b : Bool) → c ≡ true → (b || c) ≡ true
    more true q = refl
    more false q = q

has_head : (x : ℕ) (xs : List ℕ) → has (x ∷ xs) x ≡ true
has_head x xs = ap (λ b. b || has xs x) (here x)
  where
    here : (x : ℕ) → (x == x) ≡ true
    here x = grind (arith, nat_tests)

-- tests that agree on the elements
pub any_agree : (p q : ℕ → Bool) (xs : List ℕ) → ((a : ℕ) → has xs a ≡ true → p a ≡ q a) → list_any p xs ≡ list_any q xs
any_agree p q [] h = refl
any_agree p q (x ∷ xs) h =
    let here : p x ≡ q x = h x (has_head x xs) in
    let rest : list_any p xs ≡ list_any q xs = any_agree p q xs (λ a k. h a (has_tail x xs a k)) in
    cc

-- what holds of no element
pub none_of : (p : ℕ → Bool) (xs : List ℕ) → list_any p xs ≡ false → (a : ℕ) → has xs a ≡ true → p a ≡ false
none_of p xs h a k = at (p a) refl
  where
    clash : false ≡ true → ⊥
    clash e = cc

    at : (b : Bool) → p a ≡ b → p a ≡ false
    at true e = absurd (clash (sym h ∙ any_from p xs a k e))
    at false e = e

-- the values of bits
abbrev pub bits_read : List Bool → List ℕ → List Bool
bits_read bits ks = map (bit_at bits) ks

-- bits that agree
pub read_agree : (v w : List Bool) (ks : List ℕ) → ((a : ℕ) → has ks a ≡ true → bit_at v a ≡ bit_at w a) → bits_read v ks ≡ bits_read w ks
read_agree v w [] h = refl
read_agree v w (x ∷ xs) h =
    let here : bit_at v x ≡ bit_at w x = h x (has_head x xs) in
    let rest : bits_read v xs ≡ bits_read w xs = read_agree v w xs (λ a k. h a (has_tail x xs a k)) in
    cc

-- a bit that does not differ
pub not_differ : (v w : List Bool) (k : ℕ) → bit_differs v w k ≡ false → bit_at v k ≡ bit_at w k
not_differ v w k h = at (bit_at v k) (bit_at w k) h
  where
    at : (a b : Bool) → ((a && not b) || (not a && b)) ≡ false → a ≡ b
    at true true e = refl
    at true false e = cc
    at false true e = cc
    at false false e = refl
