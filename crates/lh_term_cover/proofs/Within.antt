-- A range of bits is of a set exactly where one of its ranges has it.
use Rattle.std.proofs.Common.{◌≡◌, ℕ, ◌+◌, ◌-◌, ◌<◌, ◌≤◌, add-zero, inl, inr, subst, Bool, true, false, ◌&&◌, ◌||◌, nat_eq, nat_le, nat_lt, List, [], ◌∷◌, length, get_or, refl, sym, ap, ◌∙◌, arith, zero, suc}
use Rattle.std.specs.List.{list_any}
use Rattle.std.specs.List.Sorted.{IsPartitionedBy, IsPartitionPoint}
use Rattle.std.proofs.lemmas.Bool.Decides.{nat_tests}
use Rattle.std.proofs.lemmas.Bool.{or_from, or_cases}
use Rattle.std.specs.Cmp.{first_so, second_so, both_ways}
use Rattle.lh_types.specs.Types.{bit_count}
use Rattle.lh_term.specs.declared.part.Part.{Part}
use Rattle.lh_term_cover.specs.declared.runs.CoverRun.{CoverRun}
use Rattle.lh_term_cover.specs.declared.Cover.{Cover}
use Rattle.lh_term_cover.specs.Bits.{is_waited, are_waited, covers}
use Rattle.lh_term_cover.specs.Runs.{in_run, in_runs, IsBefore, RunIsBeforeAll, AreApart, IsCover, run_of, starts_by, ends_within}

-- ---- what the code finds

-- whether some range has all bits of r
abbrev pub within : List CoverRun → CoverRun → Bool
within ss r = list_any (λ s. starts_by s r && ends_within r s) ss

none_within : (r : CoverRun) (ss : List CoverRun) → ((k : ℕ) (d : CoverRun) → k < length ss → starts_by (get_or ss k d) r ≡ false) → within ss r ≡ false
none_within r [] h = refl
none_within r (s ∷ ss) h = or_from _ _ (ap (λ x. x && ends_within r s) (h 0 s (omega arith))) (none_within r ss (λ k d l. h (suc k) d (omega arith)))

-- a range that begins before another that begins no later than r has not all of r
passed : (s t r : CoverRun) → IsBefore s t → starts_by t r ≡ true → r.lo < r.end → (starts_by s r && ends_within r s) ≡ false
passed s t r b e f = not_both s.arg s.lo s.end t.arg t.lo r.arg r.lo r.end b.arg b.end e f
  where
    not_both : (sa sl se ta tl ra rl re : ℕ) → sa ≤ ta → (sa ≡ ta → se < tl) → (nat_lt ta ra || (nat_eq ta ra && nat_le tl rl)) ≡ true → rl < re →
        ((nat_lt sa ra || (nat_eq sa ra && nat_le sl rl)) && (nat_eq ra sa && nat_le re se)) ≡ false
    not_both sa sl se ta tl ra rl re p q e f = grind (arith, nat_tests)

-- the range before a partition point is the one that can have it
pub last_within : (r : CoverRun) (ss : List CoverRun) (n : ℕ) (d : CoverRun) → r.lo < r.end → AreApart ss → n < length ss →
    ((k : ℕ) (d : CoverRun) → k < n + 1 → starts_by (get_or ss k d) r ≡ true) → ((k : ℕ) (d : CoverRun) → n + 1 ≤ k → k < length ss → starts_by (get_or ss k d) r ≡ false) →
    ends_within r (get_or ss n d) ≡ within ss r
last_within r [] n d f a l t u = absurd (omega arith)
last_within r (s ∷ ss) zero d f a l t u =
    sym (ap (λ x. (x && ends_within r s) || within ss r) (t 0 s (omega arith)) ∙ or_none (ends_within r s) (within ss r) (none_within r ss (λ k e m. u (suc k) e (omega arith) (omega arith))))
  where
    or_none : (x y : Bool) → y ≡ false → (x || y) ≡ x
    or_none true y e = refl
    or_none false y e = e
last_within r (s ∷ []) (suc n) d f a l t u = absurd (omega arith)
last_within r (s ∷ x ∷ ss) (suc n) d f a l t u =
    last_within r (x ∷ ss) n d f a.2 (omega arith) (λ k e m. t (suc k) e (omega arith)) (λ k e m o. u (suc k) e (omega arith) (omega arith))
    ∙ sym (ap (λ y. y || within (x ∷ ss) r) (passed s x r a.1.0 (t 1 x (omega arith)) f))

-- those that begin no later come first
before_at : (s : CoverRun) (ss : List CoverRun) (k : ℕ) (d : CoverRun) → RunIsBeforeAll s ss → k < length ss → IsBefore s (get_or ss k d)
before_at s [] k d b l = absurd (omega arith)
before_at s (x ∷ ss) zero d b l = b.0
before_at s (x ∷ ss) (suc k) d b l = before_at s ss k d b.1 (omega arith)

starts_before : (r s t : CoverRun) → s.lo < s.end → IsBefore s t → starts_by t r ≡ true → starts_by s r ≡ true
starts_before r s t f b e = lower s.arg s.lo s.end t.arg t.lo r.arg r.lo f b.arg b.end e
  where
    lower : (sa sl se ta tl ra rl : ℕ) → sl < se → sa ≤ ta → (sa ≡ ta → se < tl) → (nat_lt ta ra || (nat_eq ta ra && nat_le tl rl)) ≡ true → (nat_lt sa ra || (nat_eq sa ra && nat_le sl rl)) ≡ true
    lower sa sl se ta tl ra rl f p q e = grind (arith, nat_tests)

pub parted : (r : CoverRun) (ss : List CoverRun) → AreApart ss → IsPartitionedBy (λ (s : CoverRun). starts_by s r) ss
parted r [] a i j d h l e = absurd (omega arith)
parted r (s ∷ ss) a zero zero d h l e = e
parted r (s ∷ ss) a zero (suc j) d h l e = starts_before r s (get_or ss j d) a.0 (before_at s ss j d a.1 (omega arith)) e
parted r (s ∷ ss) a (suc i) zero d h l e = absurd (omega arith)
parted r (s ∷ ss) a (suc i) (suc j) d h l e = parted r ss a.2 i j d (omega arith) (omega arith) e

-- ---- what the definition says

-- whether each of n bits of an argument is of the set
abbrev all_in : List CoverRun → ℕ → ℕ → ℕ → Bool
all_in ss a lo zero = true
all_in ss a lo (suc n) = in_runs ss a (lo + n) && all_in ss a lo n

same_all : (ss : List CoverRun) (ps : List Part) → ((a b : ℕ) → in_runs ss a b ≡ is_waited ps a b) → (a lo n : ℕ) → all_in ss a lo n ≡ are_waited ps a lo n
same_all ss ps h a lo zero = refl
same_all ss ps h a lo (suc n) = rw (h a (lo + n), same_all ss ps h a lo n) refl

pub in_one : (ra rl re a b : ℕ) → (nat_eq ra a && (nat_le rl b && nat_lt b re)) ≡ true → (ra ≡ a) × (rl ≤ b) × (b < re)
in_one ra rl re a b e = (grind (arith, nat_tests), grind (arith, nat_tests), grind (arith, nat_tests))

-- bits of later ranges are beyond the end
pub beyond : (r : CoverRun) (ss : List CoverRun) (a b : ℕ) → RunIsBeforeAll r ss → r.arg ≡ a → in_runs ss a b ≡ true → r.end < b
beyond r [] a b h e i = cc
beyond r (s ∷ ss) a b h e i = elim (or_cases (in_run s a b) (in_runs ss a b) i) [
  | inl k ↦ let m = in_one s.arg s.lo s.end a b k in omega (arith, h.0.end, m.0, m.1)
  | inr k ↦ beyond r ss a b h.1 e k
]

first_in : (ss : List CoverRun) (a lo n : ℕ) → all_in ss a lo (suc n) ≡ true → in_runs ss a lo ≡ true
first_in ss a lo zero e = subst (λ (b : ℕ). in_runs ss a b ≡ true) (add-zero lo) (first_so _ _ e)
first_in ss a lo (suc n) e = first_in ss a lo n (second_so _ _ e)

-- where the first bit is of the first range, so are all
reaches : (r : CoverRun) (ss : List CoverRun) (lo n : ℕ) → RunIsBeforeAll r ss → lo < r.end → all_in (r ∷ ss) r.arg lo n ≡ true → lo + n ≤ r.end
reaches r ss lo zero h f e = omega arith
reaches r ss lo (suc n) h f e =
    let k : lo + n ≤ r.end = reaches r ss lo n h f (second_so _ _ e) in
    elim (or_cases (in_run r r.arg (lo + n)) (in_runs ss r.arg (lo + n)) (first_so _ _ e)) [
      | inl i ↦ let m = in_one r.arg r.lo r.end r.arg (lo + n) i in omega (arith, m.2)
      | inr i ↦ let m : r.end < lo + n = beyond r ss r.arg (lo + n) h refl i in absurd (omega arith)
    ]

-- where it is of a later one, none is of the first
skips : (r : CoverRun) (ss : List CoverRun) (a lo n : ℕ) → (r.arg ≡ a → r.end ≤ lo) → all_in (r ∷ ss) a lo n ≡ all_in ss a lo n
skips r ss a lo zero h = refl
skips r ss a lo (suc n) h = rw (out r.arg r.lo r.end a lo n h, skips r ss a lo n h) refl
  where
    out : (ra rl re a lo n : ℕ) → (ra ≡ a → re ≤ lo) → (nat_eq ra a && (nat_le rl (lo + n) && nat_lt (lo + n) re)) ≡ false
    out ra rl re a lo n h = grind (arith, nat_tests)

from_all : (ss : List CoverRun) (a lo n : ℕ) → AreApart ss → all_in ss a lo (suc n) ≡ true → within ss (record { arg = a; lo = lo; end = lo + suc n }) ≡ true
from_all [] a lo n h e = first_in [] a lo n e
from_all (r ∷ ss) a lo n h e =
    elim (or_cases (in_run r a lo) (in_runs ss a lo) (first_in (r ∷ ss) a lo n e)) [
      | inl i ↦
          let m = in_one r.arg r.lo r.end a lo i in
          let k : lo + suc n ≤ r.end = reaches r ss lo (suc n) h.1 m.2 (subst (λ (b : ℕ). all_in (r ∷ ss) b lo (suc n) ≡ true) (sym m.0) e) in
          ap (λ x. x || within ss (record { arg = a; lo = lo; end = lo + suc n })) (here r.arg r.lo r.end a lo (lo + suc n) m.0 m.1 k)
      | inr i ↦
          or_right _ _ (from_all ss a lo n h.2 (sym (skips r ss a lo (suc n) (λ k. let m : r.end < lo = beyond r ss a lo h.1 k i in omega arith)) ∙ e))
    ]
  where
    here : (ra rl re a lo end : ℕ) → ra ≡ a → rl ≤ lo → end ≤ re → ((nat_lt ra a || (nat_eq ra a && nat_le rl lo)) && (nat_eq a ra && nat_le end re)) ≡ true
    here ra rl re a lo end p q s = grind (arith, nat_tests)

    or_right : (x y : Bool) → y ≡ true → (x || y) ≡ true
    or_right true y e = refl
    or_right false y e = e

more_in : (r : CoverRun) (ss : List CoverRun) (a lo n : ℕ) → all_in ss a lo n ≡ true → all_in (r ∷ ss) a lo n ≡ true
more_in r ss a lo zero e = refl
more_in r ss a lo (suc n) e = both (in_run r a (lo + n)) _ _ (first_so _ _ e) (more_in r ss a lo n (second_so _ _ e))
  where
    both : (x y z : Bool) → y ≡ true → z ≡ true → ((x || y) && z) ≡ true
    both true y z p q = q
    both false y z p q = rw (p, q) refl

fill : (r : CoverRun) (ss : List CoverRun) (a lo n : ℕ) → r.arg ≡ a → r.lo ≤ lo → lo + n ≤ r.end → all_in (r ∷ ss) a lo n ≡ true
fill r ss a lo zero p q s = refl
fill r ss a lo (suc n) p q s = both _ (in_runs ss a (lo + n)) _ (one r.arg r.lo r.end a lo n p q s) (fill r ss a lo n p q (omega arith))
  where
    one : (ra rl re a lo n : ℕ) → ra ≡ a → rl ≤ lo → lo + suc n ≤ re → (nat_eq ra a && (nat_le rl (lo + n) && nat_lt (lo + n) re)) ≡ true
    one ra rl re a lo n p q s = grind (arith, nat_tests)

    both : (x y z : Bool) → x ≡ true → z ≡ true → ((x || y) && z) ≡ true
    both x y z p q = rw (p, q) refl

to_all : (ss : List CoverRun) (a lo n : ℕ) → within ss (record { arg = a; lo = lo; end = lo + n }) ≡ true → all_in ss a lo n ≡ true
to_all [] a lo n e = cc
to_all (r ∷ ss) a lo n e =
    elim (or_cases _ (within ss (record { arg = a; lo = lo; end = lo + n })) e) [
      | inl i ↦ let m = there r.arg r.lo r.end a lo (lo + n) i in fill r ss a lo n m.0 m.1 m.2
      | inr i ↦ more_in r ss a lo n (to_all ss a lo n i)
    ]
  where
    there : (ra rl re a lo end : ℕ) → ((nat_lt ra a || (nat_eq ra a && nat_le rl lo)) && (nat_eq a ra && nat_le end re)) ≡ true → (ra ≡ a) × (rl ≤ lo) × (end ≤ re)
    there ra rl re a lo end e = (grind (arith, nat_tests), grind (arith, nat_tests), grind (arith, nat_tests))

pub is_covered : (ss : List CoverRun) (ps : List Part) (p : Part) → AreApart ss → ((a b : ℕ) → in_runs ss a b ≡ is_waited ps a b) → (run_of p).lo < (run_of p).end → within ss (run_of p) ≡ covers ps p
is_covered ss ps p h e f =
    both_ways _ _
    (λ w. sym (same_all ss ps e p.arg p.lo (bit_count p.ty)) ∙ to_all ss p.arg p.lo (bit_count p.ty) w)
    (λ w. at (bit_count p.ty) f (same_all ss ps e p.arg p.lo (bit_count p.ty) ∙ w))
  where
    at : (n : ℕ) → p.lo < p.lo + n → all_in ss p.arg p.lo n ≡ true → within ss (record { arg = p.arg; lo = p.lo; end = p.lo + n }) ≡ true
    at zero f w = absurd (omega arith)
    at (suc n) f w = from_all ss p.arg p.lo n h w

-- ---- the answers of the code

pub covers_none : (ps : List Part) (p : Part) → p.lo ≡ p.lo + bit_count p.ty → true ≡ covers ps p
covers_none ps p e = at (bit_count p.ty) e
  where
    at : (n : ℕ) → p.lo ≡ p.lo + n → true ≡ are_waited ps p.arg p.lo n
    at zero e = refl
    at (suc n) e = absurd (omega arith)

full : (p : Part) → (p.lo ≡ p.lo + bit_count p.ty → ⊥) → (run_of p).lo < (run_of p).end
full p h = at (bit_count p.ty) h
  where
    at : (n : ℕ) → (p.lo ≡ p.lo + n → ⊥) → p.lo < p.lo + n
    at zero h = absurd (h (sym (add-zero p.lo)))
    at (suc n) h = omega arith

pub covers_before : (cover : Cover) (ps : List Part) (p : Part) (r : CoverRun) (xs : List CoverRun) (n : ℕ) → r ≡ run_of p → xs ≡ cover.runs.items → n ≡ 0 → IsCover cover ps → (r.lo ≡ r.end → ⊥) →
    IsPartitionPoint (λ (s : CoverRun). starts_by s r ≡ true) (λ (s : CoverRun). starts_by s r ≡ false) xs n → false ≡ covers ps p
covers_before cover ps p r xs n d e z h f t =
    let k : covers ps p ≡ within xs r = sym (is_covered xs ps p (subst AreApart (sym e) h.apart) (λ a b. ap (λ (ys : List CoverRun). in_runs ys a b) e ∙ h.bits a b)
    (full p (λ g. f (ap (λ (q : CoverRun). q.lo) d ∙ g ∙ sym (ap (λ (q : CoverRun). q.end) d))))) ∙ ap (within xs) (sym d) in
    sym (k ∙ none_within r xs (λ i y l. t.1 i y (omega arith) l))

pub covers_at : (cover : Cover) (ps : List Part) (p : Part) (r : CoverRun) (xs : List CoverRun) (n : ℕ) (last : CoverRun) (found : Bool) → r ≡ run_of p → xs ≡ cover.runs.items → (n ≡ 0 → ⊥)
    → n ≤ length xs → IsCover cover ps → (r.lo ≡ r.end → ⊥) →
    IsPartitionPoint (λ (s : CoverRun). starts_by s r ≡ true) (λ (s : CoverRun). starts_by s r ≡ false) xs n →
    last ≡ get_or cover.runs.items (n - 1) last → found ≡ ends_within r last → found ≡ covers ps p
covers_at cover ps p r xs zero last found d e z l h f t g w = absurd (z refl)
covers_at cover ps p r xs (suc n) last found d e z l h f t g w =
    let o : suc n - 1 ≡ n = omega arith in
    let a : AreApart xs = subst AreApart (sym e) h.apart in
    let full_p : (run_of p).lo < (run_of p).end = full p (λ m. f (ap (λ (q : CoverRun). q.lo) d ∙ m ∙ sym (ap (λ (q : CoverRun). q.end) d))) in
    let full_r : r.lo < r.end = subst (λ (q : CoverRun). q.lo < q.end) (sym d) full_p in
    let there : last ≡ get_or xs n last = g ∙ ap (λ (k : ℕ). get_or cover.runs.items k last) o ∙ ap (λ (ys : List CoverRun). get_or ys n last) (sym e) in
    w ∙ ap (ends_within r) there
    ∙ last_within r xs n last full_r a (omega arith) (λ k y m. t.0 k y (omega arith) (omega arith)) (λ k y m q. t.1 k y (omega arith) q)
    ∙ ap (within xs) d
    ∙ is_covered xs ps p a (λ x y. ap (λ (ys : List CoverRun). in_runs ys x y) e ∙ h.bits x y) full_p

pub parted_at : (cover : Cover) (ps : List Part) (r : CoverRun) (xs : List CoverRun) → xs ≡ cover.runs.items → IsCover cover ps → IsPartitionedBy (λ (s : CoverRun). starts_by s r) xs
parted_at cover ps r xs e h = parted r xs (subst AreApart (sym e) h.apart)
