-- Laws of lists that std has in another form.
use Rattle.std.proofs.Common.{◌≡◌, ℕ, ◌<◌, ◌≤◌, zero, suc, false, List, [], ◌∷◌, ◌++◌, length, get_or, drop, replicate, slice_get, Some, Contains, inl, inr, ◌⊎◌, refl, ap, ◌∙◌, append_assoc, arith}
use Rattle.std.proofs.lemmas.List.{drop_all}

-- one more item
pub push_cases : {X : Type 0} (xs : List X) (x y : X) (i : ℕ) → slice_get (xs ++ x ∷ []) i ≡ Some y → (slice_get xs i ≡ Some y) ⊎ ((i ≡ length xs) × (x ≡ y))
push_cases [] x y zero e = inr (refl, cc)
push_cases [] x y (suc i) e = cc
push_cases (z ∷ xs) x y zero e = inl e
push_cases (z ∷ xs) x y (suc i) e = elim (push_cases xs x y i e) [ inl p ↦ inl p | inr p ↦ inr (ap suc p.0, p.1) ]

-- the item behind those in front
pub get_end : {X : Type 0} (xs : List X) (x : X) (ys : List X) → slice_get (xs ++ x ∷ ys) (length xs) ≡ Some x
get_end [] x ys = refl
get_end (z ∷ xs) x ys = get_end xs x ys

pub get_last : {X : Type 0} (xs : List X) (x : X) → slice_get (xs ++ x ∷ []) (length xs) ≡ Some x
get_last xs x = get_end xs x []

-- an item of those in front
pub get_below : {X : Type 0} (xs ys : List X) (i : ℕ) → i < length xs → slice_get (xs ++ ys) i ≡ slice_get xs i
get_below [] ys i h = absurd (omega arith)
get_below (z ∷ xs) ys zero h = refl
get_below (z ∷ xs) ys (suc i) h = get_below xs ys i (omega arith)

pub drop_end : {A : Type 0} (xs : List A) (i : ℕ) → length xs ≤ i → drop i xs ≡ []
drop_end xs i h = drop_all i xs h

pub Contains-nil : (x : ℕ) → Contains [] x → ⊥
Contains-nil x (k, l, e) = omega (arith, l)

-- no place of a list of false is true
pub no_flag : (n v : ℕ) → get_or (replicate n false) v false ≡ false
no_flag zero v = refl
no_flag (suc n) zero = refl
no_flag (suc n) (suc v) = no_flag n v

-- two texts at the end of a third, one behind the other
pub append_twice : (old mid new a b : List ℕ) → mid ≡ old ++ a → new ≡ mid ++ b → new ≡ old ++ (a ++ b)
append_twice old mid new a b e f = f ∙ ap (λ l. l ++ b) e ∙ append_assoc old a b
