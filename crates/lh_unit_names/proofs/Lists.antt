-- Lists with one more item, and keys.
use Rattle.std.proofs.Common.{◌≡◌, ℕ, ◌<◌, zero, suc, Bool, true, false, ◌||◌, List, [], ◌∷◌, ◌++◌, length, get_or, Some, slice_get, position, refl, ap, sym, ◌∙◌, arith, inl, inr}
use Rattle.std.specs.List.{list_any}
use Rattle.std.proofs.lemmas.Option.{slice_get-get_or, slice_get_within}
use Rattle.std.proofs.lemmas.List.Quantifiers.{position-Some}
use Rattle.lh_types.proofs.Lists.{push_cases}
use Rattle.lh_unit_names.specs.Distinct.{AllDistinct}

-- where an index lies
pub data Trichotomy (n k : ℕ) : Type 0 where
  before : k < n → Trichotomy n k
  at : k ≡ n → Trichotomy n k
  past : n < k → Trichotomy n k

pub trichotomy : (n k : ℕ) → Trichotomy n k
trichotomy zero zero = at refl
trichotomy zero (suc k) = past (omega arith)
trichotomy (suc n) zero = before (omega arith)
trichotomy (suc n) (suc k) = elim (trichotomy n k) [ before h ↦ before (omega (arith, h)) | at h ↦ at (ap suc h) | past h ↦ past (omega (arith, h)) ]

-- what is at an index of a list with one more item
pub data Pushed {X : Type 0} (xs : List X) (y m : X) (k : ℕ) : Type 0 where
  old : k < length xs → slice_get xs k ≡ Some m → Pushed xs y m k
  new : k ≡ length xs → y ≡ m → Pushed xs y m k

pub pushed : {X : Type 0} (xs : List X) (y m : X) (k : ℕ) → slice_get (xs ++ y ∷ []) k ≡ Some m → Pushed xs y m k
pushed xs y m k p = elim (push_cases xs y m k p) [ inl e ↦ old (slice_get_within xs k m e) e | inr q ↦ new q.0 q.1 ]

pub AllDistinct-push : {K : Type 0} (ks : List K) (k : K) → AllDistinct ks → ((i : ℕ) → slice_get ks i ≡ Some k → ⊥) → AllDistinct (ks ++ k ∷ [])
AllDistinct-push ks k d a i j m p q = by (pushed ks k m i p) (pushed ks k m j q)
  where
    by : Pushed ks k m i → Pushed ks k m j → i ≡ j
    by (old h e) (old g f) = d i j m e f
    by (old h e) (new g f) = absurd (a i (e ∙ ap Some (sym f)))
    by (new h e) (old g f) = absurd (a j (f ∙ ap Some (sym e)))
    by (new h e) (new g f) = h ∙ sym g

-- keys whose test is equality
module _ {K : Type 0} (E : K → K → Bool) (is : (x y : K) → E x y ≡ true → x ≡ y) (itself : (x : K) → E x x ≡ true) where
  pub key_found : (ks : List K) (k : K) (i : ℕ) → Some i ≡ position (E k) ks → (i < length ks) × (slice_get ks i ≡ Some k)
  key_found ks k i p = let s = position-Some (E k) ks i k (sym p) in (s.0, slice_get-get_or ks i k s.0 ∙ ap Some (sym (is k (get_or ks i k) s.1)))

  pub other_keys : (ks : List K) (k : K) (i : ℕ) → false ≡ list_any (E k) ks → slice_get ks i ≡ Some k → ⊥
  other_keys [] k i a e = cc
  other_keys (x ∷ ks) k zero a e = let d : x ≡ k = cc in let f : E k x ≡ true = ap (E k) d ∙ itself k in cc
  other_keys (x ∷ ks) k (suc i) a e = other_keys ks k i (rest (E k x) (list_any (E k) ks) a) e
    where
      rest : (b c : Bool) → false ≡ (b || c) → false ≡ c
      rest false c p = p
      rest true c p = cc
