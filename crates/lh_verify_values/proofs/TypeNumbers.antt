-- Types by their numbers.
use Rattle.std.proofs.Common.{◌≡◌, ℕ, ◌+◌, ◌<◌, ◌≤◌, ◌==◌, inl, inr, zero, suc, Bool, true, false, List, [], ◌∷◌, ◌++◌, length, get_or, drop, Option, Some, None, slice_get, refl, ap, sym, ◌∙◌, subst, arith}
use Rattle.std.specs.Option.{option_and_then, option_map_or}
use Rattle.std.specs.Bool.{if◌then◌else◌}
use Rattle.std.specs.List.{IsDistinct, AllByRecursion, list_any}
use Rattle.indexmap.specs.IndexSet.{insert_key}
use Rattle.std.proofs.lemmas.Map.Keys.{IsDistinct-head, IsDistinct-tail}
use Rattle.std.proofs.lemmas.Option.{slice_get_within}
use Rattle.std.proofs.lemmas.List.{drop_all}
use Rattle.lh_types.specs.Types.{TypeTree, row_of, same_type}
use Rattle.lh_types.specs.Same.{same-is, same-refl}
use Rattle.lh_unit.specs.declared.inst.Arg.{Arg}
use Rattle.lh_types.proofs.Rows.{row_of-drop}
use Rattle.lh_types.proofs.Lists.{push_cases, get_last, get_below}
use Rattle.lh_unit.proofs.Lists.{Same, same, other, same_or, nat_eq-refl, nat_eq-other, not_true, some_inj}
use Rattle.lh_verify_values.specs.Digest.{mixed, digest_of, digest_of_row}
use Rattle.lh_verify_values.specs.Numbers.{NumbersGrow, IsNumberOf, AreNumbersOf}

-- types that get numbers change no number
pub number-grows : (old new : List TypeTree) (n : Option ℕ) (t : Option TypeTree) → NumbersGrow old new → IsNumberOf old n t → IsNumberOf new n t
number-grows old new None None g e = refl
number-grows old new None (Some t) g e = cc
number-grows old new (Some n) None g e = cc
number-grows old new (Some n) (Some t) g e = ap Some (g n t (some_inj (slice_get old n) (Some t) e))

pub get-more : (xs ys : List TypeTree) (n : ℕ) (t : TypeTree) → slice_get xs n ≡ Some t → slice_get (xs ++ ys) n ≡ Some t
get-more [] ys n t e = cc
get-more (x ∷ xs) ys zero t e = e
get-more (x ∷ xs) ys (suc n) t e = get-more xs ys n t e

pub grows-insert : (old new self : List TypeTree) (t : TypeTree) → old ≡ self → new ≡ insert_key same_type old t → NumbersGrow self new
grows-insert old new self t e w n u g = by (list_any (same_type t) old) w
  where
    by : (b : Bool) → new ≡ (if b then old else old ++ t ∷ []) → slice_get new n ≡ Some u
    by true q = ap (λ l. slice_get l n) (q ∙ e) ∙ g
    by false q = ap (λ l. slice_get l n) q ∙ get-more old (t ∷ []) n u (ap (λ l. slice_get l n) e ∙ g)

-- two numbers of one type are one
item-of : (P : TypeTree → Type 0) (xs : List TypeTree) (n : ℕ) (t : TypeTree) → AllByRecursion P xs → slice_get xs n ≡ Some t → P t
item-of P [] n t h e = cc
item-of P (x ∷ xs) zero t h e = subst P (some_inj x t e) h.0
item-of P (x ∷ xs) (suc n) t h e = item-of P xs n t h.1 e

not-behind : (x : TypeTree) (xs : List TypeTree) (n : ℕ) (t : TypeTree) → IsDistinct same_type (x ∷ xs) → x ≡ t → slice_get xs n ≡ Some t → ⊥
not-behind x xs n t d p e =
    let Q : TypeTree → Type 0 = λ y. same_type x y ≡ false in
    let R : TypeTree → Type 0 = λ y. same_type y t ≡ false in
    let q : same_type x t ≡ false = item-of Q xs n t (IsDistinct-head same_type x xs d) e in
    let r : same_type t t ≡ false = subst R p q in
    cc (same-refl t)

pub one-number : (xs : List TypeTree) (n m : ℕ) (t : TypeTree) → IsDistinct same_type xs → slice_get xs n ≡ Some t → slice_get xs m ≡ Some t → n ≡ m
one-number [] n m t d p q = cc
one-number (x ∷ xs) zero zero t d p q = refl
one-number (x ∷ xs) zero (suc m) t d p q = absurd (not-behind x xs m t d (some_inj x t p) q)
one-number (x ∷ xs) (suc n) zero t d p q = absurd (not-behind x xs n t d (some_inj x t q) p)
one-number (x ∷ xs) (suc n) (suc m) t d p q = ap suc (one-number xs n m t (IsDistinct-tail same_type x xs d) p q)

-- the test of two numbers is that of their types
pub same-number : (ns xs : List TypeTree) → ns ≡ xs → IsDistinct same_type ns → (n m : ℕ) (t u : TypeTree) → slice_get xs n ≡ Some t → slice_get xs m ≡ Some u → (n == m) ≡ same_type t u
same-number ns xs e d n m t u p q = by (same_or n m)
  where
    there : IsDistinct same_type xs
    there = subst (λ (l : List TypeTree). IsDistinct same_type l) e d

    by : Same n m → (n == m) ≡ same_type t u
    by (same h) =
        let r : Some t ≡ Some u = sym p ∙ ap (slice_get xs) h ∙ q in
        let k : t ≡ u = some_inj t u r in
        ap (λ y. n == y) (sym h) ∙ nat_eq-refl n ∙ sym (same-refl t) ∙ ap (same_type t) k
    by (other h) =
        let r : same_type t u ≡ false = not_true (same_type t u) (λ y. h (one-number xs n m t there p (q ∙ ap Some (sym (same-is t u y))))) in
        nat_eq-other n m h ∙ sym r

-- what a number says of a type
pub number-at : (types : List TypeTree) (o : Option ℕ) (n : ℕ) (t : Option TypeTree) → IsNumberOf types o t → o ≡ Some n → slice_get types n ≡ t
number-at types None n t e h = cc
number-at types (Some m) n None e h = cc
number-at types (Some m) n (Some t) e h = ap (slice_get types) (sym (some_inj m n h)) ∙ some_inj (slice_get types m) (Some t) e

pub number-off : (types : List TypeTree) (o : Option ℕ) (t : Option TypeTree) → IsNumberOf types o t → o ≡ None → t ≡ None
number-off types None None e h = refl
number-off types None (Some t) e h = cc
number-off types (Some m) t e h = cc

pub number-is : (types : List TypeTree) (n : ℕ) (t : TypeTree) → slice_get types n ≡ Some t → IsNumberOf types (Some n) (Some t)
number-is types n t e = ap Some e

-- a type that passes the test of another one is this one
pub is-tested : (o : Option TypeTree) (s t : TypeTree) → o ≡ Some s → same_type s t ≡ true → o ≡ Some t
is-tested o s t e h = e ∙ ap Some (same-is s t h)

-- a test of numbers is that of a type
pub same-at : {b : Bool} → (types : List TypeTree) (n m : ℕ) (o : Option ℕ) (t : TypeTree) (v : Option TypeTree) → slice_get types m ≡ Some t → IsNumberOf types o v → o ≡ Some n
    → ((x u : TypeTree) → slice_get types n ≡ Some x → slice_get types m ≡ Some u → b ≡ same_type x u) → b ≡ option_map_or (λ s. same_type s t) v false
same-at types n m None t v e i h f = cc
same-at types n m (Some k) t None e i h f = cc
same-at types n m (Some k) t (Some x) e i h f = f x t (ap (slice_get types) (sym (some_inj k n h)) ∙ some_inj (slice_get types k) (Some x) i) e

-- the digest of a row, walked by an index
pub record DigestAt (all xs : List TypeTree) (i sum : ℕ) : Type 0 where
  pub whole : xs ≡ all
  pub rest : digest_of_row sum (row_of (drop i xs)) ≡ digest_of_row 132 (row_of all)

pub DigestAt-first : (all xs : List TypeTree) → xs ≡ all → DigestAt all xs 0 132
DigestAt-first all xs e = record { whole = e; rest = ap (λ l. digest_of_row 132 (row_of l)) e }

pub DigestAt-next : (all xs : List TypeTree) (i sum : ℕ) (x : TypeTree) → DigestAt all xs i sum → i < length xs → x ≡ get_or xs i x → DigestAt all xs (i + 1) (mixed sum (digest_of x))
DigestAt-next all xs i sum x r h e = record {
  whole = r.whole;
  rest = ap (λ t. digest_of_row (mixed sum (digest_of t)) (row_of (drop (i + 1) xs))) e ∙ ap (digest_of_row sum) (sym (row_of-drop xs i x h)) ∙ r.rest;
}

pub DigestAt-end : (all xs : List TypeTree) (i sum : ℕ) → DigestAt all xs i sum → length xs ≤ i → sum ≡ digest_of_row 132 (row_of all)
DigestAt-end all xs i sum r h = ap (λ l. digest_of_row sum (row_of l)) (sym (drop_all i xs h)) ∙ r.rest

-- the numbers of arguments, one more
pub numbers-grow : (old new : List TypeTree) (args : List Arg) (numbers : List ℕ) → NumbersGrow old new → AreNumbersOf old args numbers → AreNumbersOf new args numbers
numbers-grow old new args numbers g a k x e = by (slice_get numbers k) (a k x e)
  where
    by : (o : Option ℕ) → option_and_then (slice_get old) o ≡ Some x.ty → option_and_then (slice_get new) o ≡ Some x.ty
    by None p = cc
    by (Some n) p = g n x.ty p

pub numbers-push : (types : List TypeTree) (args : List Arg) (numbers : List ℕ) (a : Arg) (n : ℕ) → length numbers ≡ length args → AreNumbersOf types args numbers → slice_get types n ≡ Some a.ty
    → AreNumbersOf types (args ++ a ∷ []) (numbers ++ n ∷ [])
numbers-push types args numbers a n l old e k x g = elim (push_cases args a x k g) [
  | inl p ↦ let h : k < length numbers = omega (arith, slice_get_within args k x p, l) in ap (option_and_then (slice_get types)) (get_below numbers (n ∷ []) k h) ∙ old k x p
  | inr p ↦
      let q : slice_get (numbers ++ n ∷ []) k ≡ Some n = ap (slice_get (numbers ++ n ∷ [])) (p.0 ∙ sym l) ∙ get_last numbers n in
      ap (option_and_then (slice_get types)) q ∙ e ∙ ap (λ (y : Arg). Some y.ty) p.1
]
