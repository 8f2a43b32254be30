-- Of a search of a graph: lists of numbers in which none stands twice, and the first of some answers.
use Rattle.std.proofs.Common.{◌≡◌, ℕ, zero, suc, ◌<◌, ◌≤◌, ◌⊎◌, inl, inr, true, false, ◌||◌, nat_eq, if◌then◌else◌, List, [], ◌∷◌, length, take, Option, Some, None, refl, ap, sym, ◌∙◌, subst, arith}
use Rattle.std.specs.List.{slice_get}
use Rattle.lh_unit.specs.Within.{Each}
use Rattle.lh_unit.specs.Typing.{or_else}
use Rattle.lh_unit.specs.Design.{first_some}
use Rattle.lh_unit.proofs.Lists.{Same, same, other, same_or, nat_eq-refl, nat_eq-other, or_true}
use Rattle.lh_unit.specs.declared.inst.UnitId.{UnitId}
use Rattle.lh_unit.specs.declared.inst.Item.{Item}
use Rattle.lh_unit.specs.declared.inst.Item.TheVariants as item
use Rattle.lh_verify_laws.specs.Graphs.{IsIn, is_open}

pub not_open : (xs : List ℕ) (n : ℕ) → (IsIn xs n → ⊥) → is_open xs n ≡ false
not_open [] n h = refl
not_open (x ∷ xs) n h = ap (λ b. b || is_open xs n) (nat_eq-other x n (λ e. h (inl e))) ∙ not_open xs n (λ k. h (inr k))

pub is_open-in : (xs : List ℕ) (n : ℕ) → IsIn xs n → is_open xs n ≡ true
is_open-in [] n h = absurd h
is_open-in (x ∷ xs) n (inl e) = ap (λ k. nat_eq k n || is_open xs n) e ∙ ap (λ b. b || is_open xs n) (nat_eq-refl n)
is_open-in (x ∷ xs) n (inr h) = ap (λ b. nat_eq x n || b) (is_open-in xs n h) ∙ or_true (nat_eq x n)

-- the units among items
abbrev pub item_units : List Item → List ℕ
item_units [] = []
item_units (item.Unit u ∷ more) = u.0 ∷ item_units more
item_units (item.Declare d ∷ more) = item_units more

pub in-units : (items : List Item) (i : ℕ) (u : UnitId) → slice_get items i ≡ Some (item.Unit u) → IsIn (item_units items) u.0
in-units [] i u e = cc
in-units (item.Unit v ∷ more) zero u e = let q : v ≡ u = cc in inl (ap (λ (x : UnitId). x.0) q)
in-units (item.Declare d ∷ more) zero u e = cc
in-units (item.Unit v ∷ more) (suc i) u e = inr (in-units more i u e)
in-units (item.Declare d ∷ more) (suc i) u e = in-units more i u e

-- these are among the first n units
abbrev pub Inside : ℕ → List UnitId → Type 0
Inside n ts = Each (λ (t : UnitId). t.0 < n) ts

-- none stands twice
abbrev pub Distinct : List ℕ → Type 0
Distinct [] = Unit {0}
Distinct (x ∷ xs) = (IsIn xs x → ⊥) × Distinct xs

-- the list without the first x
without : ℕ → List ℕ → List ℕ
without x [] = []
without x (y ∷ ys) = if nat_eq y x then ys else y ∷ without x ys

length-without : (ys : List ℕ) (x : ℕ) → IsIn ys x → length ys ≡ suc (length (without x ys))
unfolding without
length-without [] x h = absurd h
length-without (y ∷ ys) x h = by (same_or y x) h (λ k. length-without ys x k)
  where
    by : Same y x → (y ≡ x) ⊎ IsIn ys x → (IsIn ys x → length ys ≡ suc (length (without x ys))) → suc (length ys) ≡ suc (length (if nat_eq y x then ys else y ∷ without x ys))
    by (same e) h f = ap (λ b. suc (length (if b then ys else y ∷ without x ys))) (sym (ap (λ k. nat_eq k x) e ∙ nat_eq-refl x))
    by (other n) (inl e) f = absurd (n e)
    by (other n) (inr k) f = ap suc (f k) ∙ ap (λ b. suc (length (if b then ys else y ∷ without x ys))) (sym (nat_eq-other y x n))

in-without : (ys : List ℕ) (x z : ℕ) → (x ≡ z → ⊥) → IsIn ys z → IsIn (without x ys) z
unfolding without
in-without [] x z n h = absurd h
in-without (y ∷ ys) x z n h = by (same_or y x) h (λ k. in-without ys x z n k)
  where
    by : Same y x → (y ≡ z) ⊎ IsIn ys z → (IsIn ys z → IsIn (without x ys) z) → IsIn (if nat_eq y x then ys else y ∷ without x ys) z
    by (same e) (inl k) f = absurd (n (sym e ∙ k))
    by (same e) (inr k) f = subst (λ b. IsIn (if b then ys else y ∷ without x ys) z) (sym (ap (λ j. nat_eq j x) e ∙ nat_eq-refl x)) k
    by (other o) (inl k) f = subst (λ b. IsIn (if b then ys else y ∷ without x ys) z) (sym (nat_eq-other y x o)) (inl k)
    by (other o) (inr k) f = subst (λ b. IsIn (if b then ys else y ∷ without x ys) z) (sym (nat_eq-other y x o)) (inr (f k))

one_less : (a b c d : ℕ) → a ≤ c → d ≡ suc c → b ≡ suc a → b ≤ d
one_less a b c d h e f = omega arith

-- a list in which none stands twice is no longer than one that has all of it
pub no_longer : (xs ys : List ℕ) → Distinct xs → ((z : ℕ) → IsIn xs z → IsIn ys z) → length xs ≤ length ys
no_longer [] ys d h = omega arith
no_longer (x ∷ xs) ys d h =
    one_less (length xs) (length (x ∷ xs)) (length (without x ys)) (length ys)
    (no_longer xs (without x ys) d.1 (λ z k. in-without ys x z (λ e. d.0 (subst (IsIn xs) (sym e) k)) (h z (inr k))))
    (length-without ys x (h x (inl refl))) refl

-- the first of some answers
pub first-at : {A B : Type 0} (f : A → Option B) (xs : List A) (i : ℕ) (x : A) (v : B) → slice_get xs i ≡ Some x → Each (λ y. f y ≡ None) (take i xs) → f x ≡ Some v → first_some f xs ≡ Some v
first-at f [] i x v e n h = cc
first-at f (y ∷ ys) zero x v e n h = let s : y ≡ x = cc in ap (λ z. or_else (f z) (first_some f ys)) s ∙ ap (λ o. or_else o (first_some f ys)) h
first-at f (y ∷ ys) (suc i) x v e n h = ap (λ o. or_else o (first_some f ys)) n.0 ∙ first-at f ys i x v e n.1 h
