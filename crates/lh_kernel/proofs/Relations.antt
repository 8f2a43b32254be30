-- Who stands under what: with some more, with some less, and lists that say which.
use Rattle.std.proofs.Common.{arith, ◌≡◌, ℕ, zero, suc, ◌+◌, ◌<◌, List, [], ◌∷◌, ◌++◌, length, get_or, take, ap, sym, ◌∙◌, subst, ◌⊎◌, inl, inr}
use Rattle.std.specs.Prelude.{◌↔◌}
use Rattle.std.proofs.lemmas.List.{take_more}
use Rattle.lh_kernel_wakes.specs.Rising.{IsOneOf}

-- what stands in the new relation is P, or stood in the old one
abbrev pub With : {X : Type 0} → (P old new : X → ℕ → Type 0) → Type 0
With {X} P old new = (x : X) (k : ℕ) → new x k ↔ (P x k ⊎ old x k)

-- what is P may stand there now, and what stood there does
abbrev pub WithSome : {X : Type 0} → (P old new : X → ℕ → Type 0) → Type 0
WithSome {X} P old new = (x : X) (k : ℕ) → (new x k → P x k ⊎ old x k) × (old x k → new x k)

-- what is P stands there no more
abbrev pub Without : {X : Type 0} → (P old new : X → ℕ → Type 0) → Type 0
Without {X} P old new = (x : X) (k : ℕ) → new x k ↔ (old x k × ¬ P x k)

-- R is P or Q
abbrev pub IsEither : {X : Type 0} → (P Q R : X → ℕ → Type 0) → Type 0
IsEither {X} P Q R = (x : X) (k : ℕ) → R x k ↔ (P x k ⊎ Q x k)

-- nothing is P
abbrev pub IsNone : {X : Type 0} → (P : X → ℕ → Type 0) → Type 0
IsNone {X} P = (x : X) (k : ℕ) → ¬ P x k

pub with_none : {X : Type 0} (P old : X → ℕ → Type 0) → IsNone P → With P old old
with_none P old n x k = (λ h. inr h, λ h. elim h [ inl p ↦ absurd (n x k p) | inr o ↦ o ])

pub without_none : {X : Type 0} (P old : X → ℕ → Type 0) → IsNone P → Without P old old
without_none P old n x k = (λ h. (h, n x k), λ h. h.0)

pub with_more : {X : Type 0} (P Q R old now new : X → ℕ → Type 0) → IsEither P Q R → With P old now → With Q now new → With R old new
with_more P Q R old now new e a b x k = (
  λ h. elim ((b x k).0 h) [
    | inl q ↦ inl ((e x k).1 (inr q))
    | inr n ↦ elim ((a x k).0 n) [ inl p ↦ inl ((e x k).1 (inl p)) | inr o ↦ inr o ]
  ],
  λ h. elim h [
    | inl r ↦ elim ((e x k).0 r) [ inl p ↦ (b x k).1 (inr ((a x k).1 (inl p))) | inr q ↦ (b x k).1 (inl q) ]
    | inr o ↦ (b x k).1 (inr ((a x k).1 (inr o)))
  ],
)

pub without_more : {X : Type 0} (P Q R old now new : X → ℕ → Type 0) → IsEither P Q R → Without P old now → Without Q now new → Without R old new
without_more P Q R old now new e a b x k = (
  λ h. let n = (b x k).0 h in (((a x k).0 n.0).0, λ r. elim ((e x k).0 r) [ inl p ↦ ((a x k).0 n.0).1 p | inr q ↦ n.1 q ]),
  λ h. (b x k).1 ((a x k).1 (h.0, λ p. h.1 ((e x k).1 (inl p))), λ q. h.1 ((e x k).1 (inr q))),
)

-- of something that was entered, some more may be
pub with_some : {X : Type 0} (P Q R old now new : X → ℕ → Type 0) → ((x : X) (k : ℕ) → P x k → R x k) → ((x : X) (k : ℕ) → Q x k → R x k) → With P old now → WithSome Q now new → WithSome R old new
with_some P Q R old now new e f a b x k = (
  λ h. elim ((b x k).0 h) [
    | inl q ↦ inl (f x k q)
    | inr n ↦ elim ((a x k).0 n) [ inl p ↦ inl (e x k p) | inr o ↦ inr o ]
  ],
  λ o. (b x k).1 ((a x k).1 (inr o)),
)

pub some_of_all : {X : Type 0} (P R old new : X → ℕ → Type 0) → ((x : X) (k : ℕ) → P x k → R x k) → With P old new → WithSome R old new
some_of_all P R old new e a x k = (
  λ h. elim ((a x k).0 h) [ inl p ↦ inl (e x k p) | inr o ↦ inr o ],
  λ o. (a x k).1 (inr o),
)

-- what came, and was not there before, and goes again
pub taken_back : {X : Type 0} (P old now new : X → ℕ → Type 0) → ((x : X) (k : ℕ) → P x k → ¬ old x k) → WithSome P old now → Without P now new → (x : X) (k : ℕ) → new x k ↔ old x k
taken_back P old now new fresh a b x k = (
  λ h. let n = (b x k).0 h in elim ((a x k).0 n.0) [ inl p ↦ absurd (n.1 p) | inr o ↦ o ],
  λ o. (b x k).1 ((a x k).1 o, λ p. fresh x k p o),
)

-- the same under a relation that is equivalent
pub with_same : {X : Type 0} (P Q old new : X → ℕ → Type 0) → ((x : X) (k : ℕ) → P x k ↔ Q x k) → With P old new → With Q old new
with_same P Q old new e a x k = (
  λ h. elim ((a x k).0 h) [ inl p ↦ inl ((e x k).0 p) | inr o ↦ inr o ],
  λ h. elim h [ inl q ↦ (a x k).1 (inl ((e x k).1 q)) | inr o ↦ (a x k).1 (inr o) ],
)

pub without_same : {X : Type 0} (P Q old new : X → ℕ → Type 0) → ((x : X) (k : ℕ) → P x k ↔ Q x k) → Without P old new → Without Q old new
without_same P Q old new e a x k = (
  λ h. let n = (a x k).0 h in (n.0, λ q. n.1 ((e x k).1 q)),
  λ h. (a x k).1 (h.0, λ p. h.1 ((e x k).0 p)),
)

-- a number is among the first of a list and one more
pub has_push : (k : ℕ) (xs : List ℕ) (y : ℕ) → IsOneOf k (xs ++ y ∷ []) ↔ (IsOneOf k xs ⊎ (y ≡ k))
has_push k xs y = (there xs, back xs)
  where
    there : (xs : List ℕ) → IsOneOf k (xs ++ y ∷ []) → IsOneOf k xs ⊎ (y ≡ k)
    there [] (inl p) = inr p
    there [] (inr h) = absurd h
    there (x ∷ xs) (inl p) = inl (inl p)
    there (x ∷ xs) (inr h) = elim (there xs h) [ inl g ↦ inl (inr g) | inr q ↦ inr q ]

    back : (xs : List ℕ) → IsOneOf k xs ⊎ (y ≡ k) → IsOneOf k (xs ++ y ∷ [])
    back [] (inl h) = absurd h
    back [] (inr q) = inl q
    back (x ∷ xs) (inl (inl p)) = inl p
    back (x ∷ xs) (inl (inr h)) = inr (back xs (inl h))
    back (x ∷ xs) (inr q) = inr (back xs (inr q))

pub has_next : (k : ℕ) (xs : List ℕ) (i y : ℕ) → i < length xs → y ≡ get_or xs i 0 → IsOneOf k (take (i + 1) xs) ↔ (IsOneOf k (take i xs) ⊎ (y ≡ k))
has_next k xs i y l e =
    let s : take (i + 1) xs ≡ take i xs ++ y ∷ [] = take_more xs i 0 l ∙ ap (λ (z : ℕ). take i xs ++ z ∷ []) (sym e) in
    let P : List ℕ → Type 0 = λ zs. IsOneOf k zs ↔ (IsOneOf k (take i xs) ⊎ (y ≡ k)) in
    subst P (sym s) (has_push k (take i xs) y)

pub has_first : (k : ℕ) (xs : List ℕ) (i : ℕ) → IsOneOf k (take i xs) → IsOneOf k xs
has_first k [] zero h = h
has_first k [] (suc i) h = h
has_first k (x ∷ xs) zero h = absurd h
has_first k (x ∷ xs) (suc i) (inl p) = inl p
has_first k (x ∷ xs) (suc i) (inr h) = inr (has_first k xs i h)

pub has_place : (xs : List ℕ) (i y : ℕ) → i < length xs → y ≡ get_or xs i 0 → IsOneOf y xs
has_place [] i y l e = absurd (omega arith)
has_place (x ∷ xs) zero y l e = inl (sym e)
has_place (x ∷ xs) (suc i) y l e = inr (has_place xs i y (omega arith) e)
