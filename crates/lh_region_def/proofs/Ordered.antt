-- The places of a region stand in their order, and each leads to later ones alone.
use Rattle.std.proofs.Common.{◌≡◌, ◌⊎◌, inl, inr, ℕ, zero, suc, ◌+◌, ◌<◌, ◌≤◌, List, [], ◌∷◌, ◌++◌, map, Bool, true, false, ◌&&◌, nat_eq, nat_le, refl, ap, sym, ◌∙◌, subst, append_assoc, arith}
use Rattle.std.specs.Bool.{if◌then◌else◌}
use Rattle.std.specs.List.{flat_map}
use Rattle.std.proofs.lemmas.Bool.Decides.{nat_tests}
use Rattle.std.proofs.lemmas.Bool.{false≢true}
use Rattle.lh_unit.specs.Within.{Each}
use Rattle.lh_unit.proofs.Lists.{Each-append}
use Rattle.lh_region_def.specs.Joins.{RegionPlace}
use Rattle.lh_region_def.specs.Places.{next_place}
use Rattle.lh_region_def.specs.Regions.{numbers_below, all_places, is_place, max_turns}
use Rattle.lh_region_def.specs.Typed.{Among}
use Rattle.lh_flat_laws.proofs.Members.{in-each, among-left, among-right}

-- by turns, then by block
abbrev pub Before : RegionPlace → RegionPlace → Type 0
Before p q = (p.turns < q.turns) ⊎ ((p.turns ≡ q.turns) × (p.block < q.block))

pub never-before : (p : RegionPlace) → Before p p → ⊥
never-before p (inl h) = omega (arith, h)
never-before p (inr h) = let z = h.1 in omega (arith, z)

pub not-both : (p q : RegionPlace) → Before p q → Before q p → ⊥
not-both p q (inl h) (inl k) = omega (arith, h, k)
not-both p q (inl h) (inr k) = let z = k.0 in omega (arith, h, z)
not-both p q (inr h) (inl k) = let z = h.0 in omega (arith, k, z)
not-both p q (inr h) (inr k) = let z = h.1 in let y = k.1 in omega (arith, z, y)

pub before-trans : (p q r : RegionPlace) → Before p q → Before q r → Before p r
before-trans p q r (inl h) (inl k) = inl (omega (arith, h, k))
before-trans p q r (inl h) (inr k) = let z = k.0 in inl (omega (arith, h, z))
before-trans p q r (inr h) (inl k) = let z = h.0 in inl (omega (arith, k, z))
before-trans p q r (inr h) (inr k) = let z = h.1 in let y = k.1 in inr (h.0 ∙ k.0, omega (arith, z, y))

abbrev pub Sorted : List RegionPlace → Type 0
Sorted [] = Unit {0}
Sorted (p ∷ ps) = Each (Before p) ps × Sorted ps

sorted-append : (xs ys : List RegionPlace) → Sorted xs → Sorted ys → Each (λ (x : RegionPlace). Each (Before x) ys) xs → Sorted (xs ++ ys)
sorted-append [] ys a b c = b
sorted-append (x ∷ xs) ys a b c = (Each-append (Before x) xs ys a.0 c.0, sorted-append xs ys a.1 b c.1)

-- what stands behind a place is after it
pub sorted-behind : (done : List RegionPlace) (p : RegionPlace) (more : List RegionPlace) → Sorted (done ++ p ∷ more) → Each (Before p) more
sorted-behind [] p more s = s.0
sorted-behind (x ∷ done) p more s = sorted-behind done p more s.1

-- a place after it stands behind it
pub later-behind : (done : List RegionPlace) (p : RegionPlace) (more : List RegionPlace) → Sorted (done ++ p ∷ more) → (q : RegionPlace) → Among q (done ++ p ∷ more) → Before p q → Among q more
later-behind [] p more s q (inl e) b = absurd (never-before p (subst (Before p) (sym e) b))
later-behind [] p more s q (inr a) b = a
later-behind (x ∷ done) p more s q (inl e) b =
    let x-before-p : Before x p = in-each (Before x) (done ++ p ∷ more) p s.0 (among-right p done (p ∷ more) (inl refl)) in
    absurd (not-both p x (subst (Before p) (sym e) b) x-before-p)
later-behind (x ∷ done) p more s q (inr a) b = later-behind done p more s.1 q a b

-- ---- all places

below : (n : ℕ) → Each (λ (k : ℕ). k < n) (numbers_below n)
below zero = tt
below (suc n) = Each-append (λ (k : ℕ). k < suc n) (numbers_below n) (n ∷ []) (weaker (numbers_below n) (below n)) (omega arith, tt)
  where
    weaker : (ks : List ℕ) → Each (λ (k : ℕ). k < n) ks → Each (λ (k : ℕ). k < suc n) ks
    weaker [] h = tt
    weaker (k ∷ ks) h = (let z = h.0 in omega (arith, z), weaker ks h.1)

among-below : (n k : ℕ) → k < n → Among k (numbers_below n)
among-below zero k h = absurd (omega (arith, h))
among-below (suc n) k h = by (nat_eq k n) refl (among-below n k)
  where
    by : (b : Bool) → nat_eq k n ≡ b → (k < n → Among k (numbers_below n)) → Among k (numbers_below n ++ n ∷ [])
    by true q go = let e : n ≡ k = grind (arith, nat_tests) in among-right k (numbers_below n) (n ∷ []) (inl e)
    by false q go = let l : k < n = grind (arith, nat_tests) in among-left k (numbers_below n) (n ∷ []) (go l)

abbrev at-turn : (t : ℕ) → List ℕ → List RegionPlace
at-turn t bs = map (λ b. record { turns = t; block = b }) bs

turn-sorted : (t : ℕ) (n : ℕ) → Sorted (at-turn t (numbers_below n))
turn-sorted t n = by n
  where
    mapped : (xs ys : List ℕ) → at-turn t (xs ++ ys) ≡ at-turn t xs ++ at-turn t ys
    mapped [] ys = refl
    mapped (x ∷ xs) ys = ap (λ zs. record { turns = t; block = x } ∷ zs) (mapped xs ys)

    before : (k : ℕ) (xs : List ℕ) → Each (λ (x : ℕ). x < k) xs → Each (λ (x : RegionPlace). Each (Before x) (record { turns = t; block = k } ∷ [])) (at-turn t xs)
    before k [] h = tt
    before k (x ∷ xs) h = ((inr (refl, h.0), tt), before k xs h.1)

    by : (n : ℕ) → Sorted (at-turn t (numbers_below n))
    by zero = tt
    by (suc n) = subst Sorted (sym (mapped (numbers_below n) (n ∷ []))) (sorted-append (at-turn t (numbers_below n)) (at-turn t (n ∷ [])) (by n) (tt, tt) (before n (numbers_below n) (below n)))

abbrev all-turns : (n : ℕ) → List ℕ → List RegionPlace
all-turns n ts = flat_map (λ t. at-turn t (numbers_below n)) ts

turns-append : (n : ℕ) (xs ys : List ℕ) → all-turns n (xs ++ ys) ≡ all-turns n xs ++ all-turns n ys
turns-append n [] ys = refl
turns-append n (x ∷ xs) ys = ap (λ zs. at-turn x (numbers_below n) ++ zs) (turns-append n xs ys) ∙ sym (append_assoc (at-turn x (numbers_below n)) (all-turns n xs) (all-turns n ys))

-- places of lower turns
turns-below : (n k : ℕ) (ts : List ℕ) → Each (λ (t : ℕ). t < k) ts → Each (λ (p : RegionPlace). p.turns < k) (all-turns n ts)
turns-below n k [] h = tt
turns-below n k (t ∷ ts) h = Each-append (λ (p : RegionPlace). p.turns < k) (at-turn t (numbers_below n)) (all-turns n ts) (row t h.0 (numbers_below n)) (turns-below n k ts h.1)
  where
    row : (t : ℕ) → t < k → (bs : List ℕ) → Each (λ (p : RegionPlace). p.turns < k) (at-turn t bs)
    row t l [] = tt
    row t l (b ∷ bs) = (l, row t l bs)

turns-are : (t : ℕ) (bs : List ℕ) → Each (λ (p : RegionPlace). p.turns ≡ t) (at-turn t bs)
turns-are t [] = tt
turns-are t (b ∷ bs) = (refl, turns-are t bs)

all-sorted : (n k : ℕ) → Sorted (all-turns n (numbers_below k))
all-sorted n zero = tt
all-sorted n (suc k) =
    subst Sorted (sym (turns-append n (numbers_below k) (k ∷ []) ∙ ap (λ zs. all-turns n (numbers_below k) ++ zs) (one-turn k)))
    (sorted-append (all-turns n (numbers_below k)) (at-turn k (numbers_below n)) (all-sorted n k) (turn-sorted k n)
    (cross (all-turns n (numbers_below k)) (turns-below n k (numbers_below k) (below k))))
  where
    nil : (xs : List RegionPlace) → xs ++ [] ≡ xs
    nil [] = refl
    nil (x ∷ xs) = ap (λ ys. x ∷ ys) (nil xs)

    one-turn : (k : ℕ) → all-turns n (k ∷ []) ≡ at-turn k (numbers_below n)
    one-turn k = nil (at-turn k (numbers_below n))

    row : (p : RegionPlace) → p.turns < k → (ys : List RegionPlace) → Each (λ (q : RegionPlace). q.turns ≡ k) ys → Each (Before p) ys
    row p l [] h = tt
    row p l (y ∷ ys) h = (inl (let e = h.0 in omega (arith, l, e)), row p l ys h.1)

    cross : (xs : List RegionPlace) → Each (λ (p : RegionPlace). p.turns < k) xs → Each (λ (x : RegionPlace). Each (Before x) (at-turn k (numbers_below n))) xs
    cross [] h = tt
    cross (x ∷ xs) h = (row x h.0 (at-turn k (numbers_below n)) (turns-are k (numbers_below n)), cross xs h.1)

pub places-sorted : (n : ℕ) → Sorted (all_places n)
places-sorted n = all-sorted n (max_turns + 1)

among-turn : (t : ℕ) (bs : List ℕ) (b : ℕ) → Among b bs → Among (record { turns = t; block = b }) (at-turn t bs)
among-turn t [] b a = absurd a
among-turn t (c ∷ bs) b (inl e) = inl (ap (λ x. record { turns = t; block = x }) e)
among-turn t (c ∷ bs) b (inr a) = inr (among-turn t bs b a)

among-turns : (n : ℕ) (ts : List ℕ) (t b : ℕ) → Among t ts → b < n → Among (record { turns = t; block = b }) (all-turns n ts)
among-turns n [] t b a h = absurd a
among-turns n (x ∷ ts) t b (inl e) h = among-left _ (at-turn x (numbers_below n)) (all-turns n ts)
    (subst (λ y. Among (record { turns = t; block = b }) (at-turn y (numbers_below n))) (sym e) (among-turn t (numbers_below n) b (among-below n b h)))
among-turns n (x ∷ ts) t b (inr a) h = among-right _ (at-turn x (numbers_below n)) (all-turns n ts) (among-turns n ts t b a h)

pub place-among : (n : ℕ) (p : RegionPlace) → p.turns ≤ max_turns → p.block < n → Among p (all_places n)
place-among n p t b = among-turns n (numbers_below (max_turns + 1)) p.turns p.block (among-below (max_turns + 1) p.turns (omega (arith, t))) b

-- an edge leads to a later place
pub next-later : (p q : RegionPlace) → q ≡ next_place p q.block → Before p q
next-later p q e = by (nat_le q.block p.block) refl (ap (λ (x : RegionPlace). x.turns) e)
  where
    by : (b : Bool) → nat_le q.block p.block ≡ b → q.turns ≡ (if b then p.turns + 1 else p.turns) → Before p q
    by true l t = inl (omega (arith, t))
    by false l t = inr (sym t, grind (arith, nat_tests))

pub place-is : (p q : RegionPlace) → is_place p q ≡ true → p ≡ q
place-is p q e = by (nat_eq p.turns q.turns) refl (nat_eq p.block q.block) refl e
  where
    by : (a : Bool) → nat_eq p.turns q.turns ≡ a → (b : Bool) → nat_eq p.block q.block ≡ b → (a && b) ≡ true → p ≡ q
    by true x true y h = let t : p.turns ≡ q.turns = grind (arith, nat_tests) in let k : p.block ≡ q.block = grind (arith, nat_tests) in λ i. record { turns = t i; block = k i }
    by true x false y h = absurd (false≢true h)
    by false x b y h = absurd (false≢true h)

pub place-self : (p : RegionPlace) → is_place p p ≡ true
place-self p = by (nat_eq p.turns p.turns) refl (nat_eq p.block p.block) refl
  where
    by : (a : Bool) → nat_eq p.turns p.turns ≡ a → (b : Bool) → nat_eq p.block p.block ≡ b → (a && b) ≡ true
    by true x true y = refl
    by true x false y = grind (arith, nat_tests)
    by false x b y = grind (arith, nat_tests)
