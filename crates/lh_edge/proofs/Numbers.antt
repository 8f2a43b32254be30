-- Valuations by number, and tables of them.
use Rattle.std.proofs.Common.{◌≡◌, ℕ, zero, suc, ◌+◌, ◌*◌, ◌/◌, ◌%◌, ◌^◌, ◌<◌, ◌≤◌, Bool, true, false, not, ◌&&◌, ◌||◌, nat_eq, if◌then◌else◌, List, [], ◌∷◌, ◌++◌, length, refl, sym, ap, ◌∙◌, inl, inr, ◌⊎◌, arith, pow-suc, drop, Some, slice_get, slice_set, get_or, drop-cons, drop_of_length-le, eq-eqb}
use Rattle.std.specs.List.{list_any}
use Rattle.std.specs.Cmp.{first_so, second_so}
use Rattle.std.proofs.lemmas.Bool.{and_from, or_cases, or_left, or_right, not-true, cases_Bool}
use Rattle.lh_term.specs.declared.part.Part.{Part}
use Rattle.lh_types.specs.Same.{nat_eq-is}
use Rattle.lh_term.specs.Tree.{Tree}
use Rattle.lh_term.specs.SameTree.{same_tree, same_tree-is}
use Rattle.lh_edge.specs.Atoms.{has}
use Rattle.lh_edge.specs.Valuations.{holds}
use Rattle.lh_edge.specs.Steps.{is_odd, numbered, is_other, agree, table_from, stays_from, shows_at, shown_from}
use Rattle.lh_types.proofs.Tests.{not_both}

-- a number below the next one is this one or below it
pub here_or_before : (j i : ℕ) → j < i + 1 → (j ≡ i) ⊎ (j < i)
here_or_before zero zero l = inl refl
here_or_before zero (suc i) l = inr (omega arith)
here_or_before (suc j) zero l = absurd (omega arith)
here_or_before (suc j) (suc i) l = elim (here_or_before j i (omega arith)) [ inl p ↦ inl (ap suc p) | inr p ↦ inr (omega arith) ]

-- what is got of flags
pub get_value : (bs : List Bool) (n : ℕ) (b : Bool) → slice_get bs n ≡ Some b → get_or bs n false ≡ b
get_value [] n b e = cc
get_value (c ∷ bs) zero b e = cc
get_value (c ∷ bs) (suc n) b e = get_value bs n b e

pub set_length : (xs : List Bool) (i : ℕ) (b : Bool) → length (slice_set xs i b) ≡ length xs
set_length [] i b = refl
set_length (x ∷ xs) zero b = refl
set_length (x ∷ xs) (suc i) b = omega (arith, set_length xs i b)

-- ---- the number of a valuation

abbrev pub digit : Bool → ℕ
digit true = 1
digit false = 0

abbrev pub number : (Tree → Bool) → List Tree → ℕ
number v [] = 0
number v (a ∷ more) = digit (v a) + 2 * number v more

pub number_below : (v : Tree → Bool) (atoms : List Tree) → number v atoms < 2 ^ length atoms
number_below v [] = omega arith
number_below v (a ∷ more) = at (v a) (number v more) (2 ^ length more) (2 ^ suc (length more)) (pow-suc 2 (length more)) (number_below v more)
  where
    at : (b : Bool) (k n m : ℕ) → m ≡ n * 2 → k < n → digit b + 2 * k < m
    at true k n m e h = omega arith
    at false k n m e h = omega arith

odd_digit : (b : Bool) (k : ℕ) → is_odd (digit b + 2 * k) ≡ b
odd_digit true k = let e : (1 + 2 * k) % 2 ≡ 1 = omega arith in ap (λ r. nat_eq r 1) e
odd_digit false k = let e : (0 + 2 * k) % 2 ≡ 0 = omega arith in ap (λ r. nat_eq r 1) e

half_digit : (b : Bool) (k : ℕ) → (digit b + 2 * k) / 2 ≡ k
half_digit true k = omega arith
half_digit false k = omega arith

pub numbered_number : (v : Tree → Bool) (atoms : List Tree) (t : Tree) → has atoms t ≡ true → numbered atoms (number v atoms) t ≡ v t
numbered_number v [] t h = cc
numbered_number v (a ∷ more) t h = at (same_tree a t) refl h (numbered_number v more t)
  where
    at : (b : Bool) → same_tree a t ≡ b → (b || has more t) ≡ true → (has more t ≡ true → numbered more (number v more) t ≡ v t) →
        (if b then is_odd (digit (v a) + 2 * number v more) else numbered more ((digit (v a) + 2 * number v more) / 2) t) ≡ v t
    at true e k next = odd_digit (v a) (number v more) ∙ ap v (same_tree-is a t e)
    at false e k next = ap (λ n. numbered more n t) (half_digit (v a) (number v more)) ∙ next k

pub numbered_none : (atoms : List Tree) (k : ℕ) (t : Tree) → has atoms t ≡ false → numbered atoms k t ≡ false
numbered_none [] k t h = refl
numbered_none (a ∷ more) k t h = at (same_tree a t) h (numbered_none more (k / 2) t)
  where
    at : (b : Bool) → (b || has more t) ≡ false → (has more t ≡ false → numbered more (k / 2) t ≡ false) → (if b then is_odd k else numbered more (k / 2) t) ≡ false
    at true e next = cc
    at false e next = next e

-- ---- numbers that agree

pub agree_numbers : (b : Tree) (v w : Tree → Bool) → ((t : Tree) → is_other b t ≡ false → w t ≡ v t) → (atoms : List Tree) → agree b atoms (number v atoms) (number w atoms) ≡ true
agree_numbers b v w h [] = refl
agree_numbers b v w h (a ∷ more) =
    and_from _ _
    (at (is_other b a) refl)
    ((λ i. agree b more (half_digit (v a) (number v more) i) (half_digit (w a) (number w more) i)) ∙ agree_numbers b v w h more)
  where
    at : (o : Bool) → is_other b a ≡ o → (o || nat_eq ((digit (v a) + 2 * number v more) % 2) ((digit (w a) + 2 * number w more) % 2)) ≡ true
    at true e = refl
    at false e = eq-eqb _ _ (digits (v a) (w a) (number v more) (number w more) (sym (h a e)))
      where
        digits : (x y : Bool) (k j : ℕ) → x ≡ y → (digit x + 2 * k) % 2 ≡ (digit y + 2 * j) % 2
        digits true true k j q = omega arith
        digits false false k j q = omega arith
        digits true false k j q = cc
        digits false true k j q = cc

pub agree_same : (b : Tree) (atoms : List Tree) (k j : ℕ) → agree b atoms k j ≡ true → (t : Tree) → is_other b t ≡ false → numbered atoms j t ≡ numbered atoms k t
agree_same b [] k j h t o = refl
agree_same b (a ∷ more) k j h t o = at (same_tree a t) refl (agree_same b more (k / 2) (j / 2) (second_so _ _ h) t o)
  where
    at : (s : Bool) → same_tree a t ≡ s → numbered more (j / 2) t ≡ numbered more (k / 2) t → (if s then is_odd j else numbered more (j / 2) t) ≡ (if s then is_odd k else numbered more (k / 2) t)
    at false e r = r
    at true e r = elim (or_cases (is_other b a) (nat_eq (k % 2) (j % 2)) (first_so _ _ h)) [
      | inl p ↦ absurd (not_both (is_other b a) p (ap (is_other b) (same_tree-is a t e) ∙ o))
      | inr p ↦ ap (λ m. nat_eq m 1) (sym (nat_eq-is (k % 2) (j % 2) p))
    ]

-- ---- tables

pub table_length : (atoms : List Tree) (e : Tree) (k n : ℕ) → length (table_from atoms e k n) ≡ n
table_length atoms e k zero = refl
table_length atoms e k (suc n) = omega (arith, table_length atoms e (k + 1) n)

-- one more at the end
table_suc : (atoms : List Tree) (e : Tree) (k n : ℕ) → table_from atoms e k (suc n) ≡ table_from atoms e k n ++ holds (numbered atoms (k + n)) e ∷ []
table_suc atoms e k zero = let z : k ≡ k + 0 = omega arith in ap (λ m. holds (numbered atoms m) e ∷ []) z
table_suc atoms e k (suc n) =
    let z : k + 1 + n ≡ k + suc n = omega arith in
    ap (λ r. holds (numbered atoms k) e ∷ r) (table_suc atoms e (k + 1) n ∙ ap (λ m. table_from atoms e (k + 1) n ++ holds (numbered atoms m) e ∷ []) z)

pub table_push : (atoms : List Tree) (e : Tree) (k n : ℕ) → table_from atoms e k (n + 1) ≡ table_from atoms e k n ++ holds (numbered atoms (k + n)) e ∷ []
table_push atoms e k n = let z : n + 1 ≡ suc n = omega arith in ap (table_from atoms e k) z ∙ table_suc atoms e k n

here_or_later : (j i n : ℕ) → j ≤ i → i < j + suc n → (j ≡ i) ⊎ ((j + 1 ≤ i) × (i < j + 1 + n))
here_or_later j i n l u = at (nat_eq j i) refl
  where
    apart : (x y : ℕ) → x ≤ y → (x ≡ y → ⊥) → x + 1 ≤ y
    apart x y d f = grind arith

    at : (b : Bool) → nat_eq j i ≡ b → (j ≡ i) ⊎ ((j + 1 ≤ i) × (i < j + 1 + n))
    at true e = inl (nat_eq-is j i e)
    at false e = inr (apart j i l (λ s. not_both (nat_eq j i) (eq-eqb j i s) e), omega arith)

module _ (atoms : List Tree) (e : Tree) where
  pub stays_tells : (b : Tree) (k j n : ℕ) → stays_from b atoms k j (table_from atoms e j n) ≡ true → (i : ℕ) → j ≤ i → i < j + n → agree b atoms k i ≡ true → holds (numbered atoms i) e ≡ true
  stays_tells b k j zero h i l u a = absurd (omega arith)
  stays_tells b k j (suc n) h i l u a = elim (here_or_later j i n l u) [
    | inl q ↦ elim (or_cases (holds (numbered atoms j) e) (not (agree b atoms k j)) (first_so _ _ h)) [
      | inl r ↦ ap (λ m. holds (numbered atoms m) e) (sym q) ∙ r
      | inr r ↦ absurd (not_both (agree b atoms k i) a (ap (agree b atoms k) (sym q) ∙ not-true (agree b atoms k j) r))
    ]
    | inr r ↦ stays_tells b k (j + 1) n (second_so _ _ h) i r.0 r.1 a
  ]

  pub stays_all : (b : Tree) (k j n : ℕ) → ((i : ℕ) → agree b atoms k i ≡ true → holds (numbered atoms i) e ≡ true) → stays_from b atoms k j (table_from atoms e j n) ≡ true
  stays_all b k j zero h = refl
  stays_all b k j (suc n) h = and_from _ _ (at (cases_Bool (agree b atoms k j))) (stays_all b k (j + 1) n h)
    where
      at : (agree b atoms k j ≡ true) ⊎ (agree b atoms k j ≡ false) → (holds (numbered atoms j) e || not (agree b atoms k j)) ≡ true
      at (inl p) = or_left _ _ (h j p)
      at (inr p) = or_right _ _ (ap not p)

  module _ (table : List Bool) (parts : List Part) where
    pub shown_tells : (j n : ℕ) → shown_from table atoms parts j (table_from atoms e j n) ≡ true → (i : ℕ) → j ≤ i → i < j + n → holds (numbered atoms i) e ≡ true
        → list_any (shows_at table atoms i) parts ≡ true
    shown_tells j zero h i l u a = absurd (omega arith)
    shown_tells j (suc n) h i l u a = elim (here_or_later j i n l u) [
      | inl q ↦ elim (or_cases (not (holds (numbered atoms j) e)) (list_any (shows_at table atoms j) parts) (first_so _ _ h)) [
        | inl r ↦ absurd (not_both (holds (numbered atoms i) e) a (ap (λ m. holds (numbered atoms m) e) (sym q) ∙ not-true (holds (numbered atoms j) e) r))
        | inr r ↦ ap (λ m. list_any (shows_at table atoms m) parts) (sym q) ∙ r
      ]
      | inr r ↦ shown_tells (j + 1) n (second_so _ _ h) i r.0 r.1 a
    ]

    pub shown_all : (j n : ℕ) → ((i : ℕ) → holds (numbered atoms i) e ≡ true → list_any (shows_at table atoms i) parts ≡ true) → shown_from table atoms parts j (table_from atoms e j n) ≡ true
    shown_all j zero h = refl
    shown_all j (suc n) h = and_from _ _ (at (cases_Bool (holds (numbered atoms j) e))) (shown_all (j + 1) n h)
      where
        at : (holds (numbered atoms j) e ≡ true) ⊎ (holds (numbered atoms j) e ≡ false) → (not (holds (numbered atoms j) e) || list_any (shows_at table atoms j) parts) ≡ true
        at (inl p) = or_right _ _ (h j p)
        at (inr p) = or_left _ _ (ap not p)

-- ---- a turn of each loop over a table

pub stays_step : (b : Tree) (atoms : List Tree) (k j : ℕ) (table : List Bool) → j < length table
    → stays_from b atoms k j (drop j table) ≡ ((get_or table j false || not (agree b atoms k j)) && stays_from b atoms k (j + 1) (drop (j + 1) table))
stays_step b atoms k j table l =
    let s : suc j ≡ j + 1 = omega arith in
    ap (stays_from b atoms k j) (drop-cons table j false l) ∙ ap (λ n. (get_or table j false || not (agree b atoms k j)) && stays_from b atoms k (j + 1) (drop n table)) s

pub stays_end : (b : Tree) (atoms : List Tree) (k j : ℕ) (table : List Bool) → length table ≤ j → stays_from b atoms k j (drop j table) ≡ true
stays_end b atoms k j table l = ap (stays_from b atoms k j) (drop_of_length-le table l)

pub shown_step : (table : List Bool) (atoms : List Tree) (parts : List Part) (k : ℕ) (all : List Bool) → k < length all
    → shown_from table atoms parts k (drop k all) ≡ ((not (get_or all k false) || list_any (shows_at table atoms k) parts) && shown_from table atoms parts (k + 1) (drop (k + 1) all))
shown_step table atoms parts k all l =
    let s : suc k ≡ k + 1 = omega arith in
    ap (shown_from table atoms parts k) (drop-cons all k false l)
    ∙ ap (λ n. (not (get_or all k false) || list_any (shows_at table atoms k) parts) && shown_from table atoms parts (k + 1) (drop n all)) s

pub shown_end : (table : List Bool) (atoms : List Tree) (parts : List Part) (k : ℕ) (all : List Bool) → length all ≤ k → shown_from table atoms parts k (drop k all) ≡ true
shown_end table atoms parts k all l = ap (shown_from table atoms parts k) (drop_of_length-le all l)
