-- Lists of names that an index takes one by one.
use Rattle.std.proofs.Common.{◌≡◌, ◌<◌, ◌+◌, ℕ, zero, suc, Bool, true, false, List, [], ◌∷◌, ◌++◌, length, take, take-suc, get_or, slice_get, Some, nat_eq, refl, sym, ap, ◌∙◌, subst, arith, Result, Ok, Err, IfOk, OnErr}
use Rattle.indexmap.specs.IndexSet.{insert_key}
use lib.Pointwise.{pointwise, bytes_decides}
use Rattle.std.specs.Cmp.Lexicographic.{same_text}
use Rattle.std.proofs.lemmas.Option.{slice_get-get_or}
use Rattle.lh_types.specs.declared.memory.NoMemory.{NoMemory}
use Rattle.lh_unit_names.specs.Distinct.{AllDistinct, has_name}
use Rattle.lh_unit_names.proofs.Lists.{AllDistinct-push, other_keys}

-- the test of two names is equality
pub same_name-is : (x y : List ℕ) → pointwise nat_eq x y ≡ true → x ≡ y
same_name-is x y p = same_text x y (sym p)

pub same_name-refl : (x : List ℕ) → pointwise nat_eq x x ≡ true
same_name-refl x = (bytes_decides x x).1 refl

-- a name that is new
pub absent : (ns : List (List ℕ)) (n : List ℕ) → has_name ns n ≡ false → (i : ℕ) → slice_get ns i ≡ Some n → ⊥
absent ns n a i = other_keys (pointwise nat_eq) same_name-is same_name-refl ns n i (sym a)

-- a name that was inserted
pub inserted : (ks new : List (List ℕ)) (n m : List ℕ) → m ≡ n → new ≡ insert_key (pointwise nat_eq) ks m → false ≡ has_name ks n → new ≡ ks ++ n ∷ []
inserted ks new n m e f g = f ∙ ap (insert_key (pointwise nat_eq) ks) e ∙ rw (← g) refl

-- no name stands twice once one was entered
distinct-entered : (ns new : List (List ℕ)) (n : List ℕ) → new ≡ insert_key (pointwise nat_eq) ns n → AllDistinct ns → AllDistinct new
distinct-entered ns new n e d = subst AllDistinct (sym e) (by (has_name ns n) refl)
  where
    by : (b : Bool) → has_name ns n ≡ b → AllDistinct (insert_key (pointwise nat_eq) ns n)
    by true h = subst AllDistinct (sym (rw h refl)) d
    by false h = subst AllDistinct (sym (inserted ns _ n n refl refl (sym h))) (AllDistinct-push ns n d (absent ns n h))

-- so it is too where memory ran out
pub distinct-after : (ns new : List (List ℕ)) (n : List ℕ) (r : Result (ℕ × Bool) NoMemory) → IfOk r (λ x. new ≡ insert_key (pointwise nat_eq) ns n) → OnErr r (new ≡ ns) → AllDistinct ns → AllDistinct new
distinct-after ns new n (Ok x) e f d = distinct-entered ns new n e d
distinct-after ns new n (Err x) e f d = subst AllDistinct (sym f) d

-- a name that nowhere stands is not found
not_found : (ns : List (List ℕ)) (n : List ℕ) → ((j : ℕ) → slice_get ns j ≡ Some n → ⊥) → has_name ns n ≡ false
not_found [] n h = refl
not_found (x ∷ ns) n h = by (pointwise nat_eq n x) refl (not_found ns n (λ j p. h (suc j) p))
  where
    by : (b : Bool) → pointwise nat_eq n x ≡ b → has_name ns n ≡ false → has_name (x ∷ ns) n ≡ false
    by true e rest = absurd (h zero (ap Some (sym (same_name-is n x e))))
    by false e rest = rw e rest

-- what stands among the first names
taken-get : (ns : List (List ℕ)) (i j : ℕ) (n : List ℕ) → slice_get (take i ns) j ≡ Some n → (j < i) × (slice_get ns j ≡ Some n)
taken-get [] zero j n p = absurd cc
taken-get [] (suc i) j n p = absurd cc
taken-get (x ∷ ns) zero j n p = absurd cc
taken-get (x ∷ ns) (suc i) zero n p = (omega arith, p)
taken-get (x ∷ ns) (suc i) (suc j) n p = let t = taken-get ns i j n p in (omega (arith, t.0), t.1)

-- the first names, once one more was entered
pub entered-next : (ns ks new : List (List ℕ)) (i : ℕ) (n m : List ℕ) → AllDistinct ns → i < length ns → n ≡ get_or ns i n → ks ≡ take i ns → m ≡ n → new ≡ insert_key (pointwise nat_eq) ks m → new ≡ take (i + 1) ns
entered-next ns ks new i n m d h e k f g =
    let stands : slice_get ns i ≡ Some n = slice_get-get_or ns i n h ∙ ap Some (sym e) in
    let apart : has_name (take i ns) n ≡ false = not_found (take i ns) n (λ j p. let t = taken-get ns i j n p in absurd (omega (arith, t.0, d i j n stands t.1))) in
    let one : new ≡ take i ns ++ n ∷ [] = inserted (take i ns) new n m f (g ∙ ap (λ l. insert_key (pointwise nat_eq) l m) k) (sym apart) in
    let next : i + 1 ≡ suc i = omega arith in
    one ∙ ap (λ y. take i ns ++ y ∷ []) e ∙ sym (ap (λ k. take k ns) next ∙ take-suc ns i n h)
