-- The last keeper of a value up to a place.
use Rattle.std.proofs.Common.{◌≡◌, ℕ, ◌≤◌, Bool, true, false, cond, Ordering, Less, Equal, Greater, refl, ap, sym, ◌∙◌, subst, arith}
use Rattle.std.specs.Ordering.{nat_cmp, ordering_then, is_lt, is_gt}
use Rattle.std.proofs.lemmas.Cmp.{ranked}
use Rattle.lh_region_places.specs.declared.keepers.Keeper.{Keeper}
use Rattle.lh_region_places.specs.Keepers.{keeper, keeper_cmp}

not-less : (a b : ℕ) (r : Ordering) → r ≡ nat_cmp a b → is_lt r ≡ false → b ≤ a
not-less a b Less e h = absurd cc
not-less a b Equal e h = let f = ranked a b Equal e in omega (arith, f)
not-less a b Greater e h = let f = ranked a b Greater e in omega (arith, f)

not-greater : (a b : ℕ) (r : Ordering) → r ≡ nat_cmp a b → a ≤ b → is_gt r ≡ false
not-greater a b Less e l = refl
not-greater a b Equal e l = refl
not-greater a b Greater e l = absurd (let f = ranked a b Greater e in omega (arith, f, l))

same-number : (n : ℕ) (r : Ordering) → r ≡ nat_cmp n n → r ≡ Equal
same-number n Less e = absurd (let f = ranked n n Less e in omega (arith, f))
same-number n Equal e = refl
same-number n Greater e = absurd (let f = ranked n n Greater e in omega (arith, f))

-- keepers of one value stand in the order of their places
same-value : (v a b : ℕ) → keeper_cmp (keeper v a) (keeper v b) ≡ nat_cmp a b
same-value v a b = ap (λ (r : Ordering). ordering_then r (nat_cmp a b)) (same-number v (nat_cmp v v) refl)

pub within-place : (v i place : ℕ) → i ≤ place → is_gt (keeper_cmp (keeper v i) (keeper v place)) ≡ false
within-place v i place l = ap is_gt (same-value v i place) ∙ not-greater i place (nat_cmp i place) refl l

-- no earlier than one that is not greater
pub up-to-last : (v i : ℕ) (k : Keeper) → k.value ≡ v → is_lt (keeper_cmp k (keeper v i)) ≡ false → i ≤ k.place
up-to-last v i k e h =
    let f : is_lt (nat_cmp k.place i) ≡ false = sym (ap is_lt (same-value v k.place i)) ∙ subst (λ (w : ℕ). is_lt (keeper_cmp (keeper w k.place) (keeper v i)) ≡ false) e h in
    not-less k.place i (nat_cmp k.place i) refl f

-- what is between two keepers of a value is one of it
pub of-value : (v i place : ℕ) (k : Keeper) → is_gt (keeper_cmp k (keeper v place)) ≡ false → is_lt (keeper_cmp k (keeper v i)) ≡ false → k.value ≡ v
of-value v i place k g h = by (nat_cmp k.value v) refl g h
  where
    by : (r : Ordering) → r ≡ nat_cmp k.value v → is_gt (ordering_then r (nat_cmp k.place place)) ≡ false → is_lt (ordering_then r (nat_cmp k.place i)) ≡ false → k.value ≡ v
    by Less e g h = absurd cc
    by Equal e g h = ranked k.value v Equal e
    by Greater e g h = absurd cc

-- what was of a set is so still where one more is
pub stays : (t x : Bool) → x ≡ true → cond t true x ≡ true
stays true x e = refl
stays false x e = e
