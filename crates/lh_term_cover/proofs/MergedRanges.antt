-- Sorted ranges merged are apart, and have the same bits.
use Rattle.std.proofs.Common.{◌≡◌, ℕ, ◌+◌, ◌<◌, ◌≤◌, max, Bool, true, false, ◌&&◌, ◌||◌, nat_eq, nat_le, nat_lt, if◌then◌else◌, List, [], ◌∷◌, refl, sym, ap, ◌∙◌, subst, arith, suc, get_or}
use Rattle.std.specs.List.{All}
use Rattle.std.specs.List.Sorted.{IsPermutation, IsSortedBy}
use Rattle.std.specs.Ordering.{ordering_then, nat_cmp, is_lt}
use Rattle.std.proofs.lemmas.List.Elements.{All-cons, All-head, All-tail}
use Rattle.std.proofs.lemmas.List.Sorted.{All-permutation, list_any-IsPermutation}
use Rattle.lh_types.specs.Types.{bit_count}
use Rattle.lh_term.specs.declared.part.Part.{Part}
use Rattle.lh_term_cover.specs.declared.Cover.{Cover}
use Rattle.lh_term_cover.specs.Bits.{has_bit, is_waited}
use Rattle.std.proofs.lemmas.Bool.Decides.{nat_tests}
use Rattle.std.proofs.Math.Bool.{or_assoc}
use Rattle.lh_term_cover.specs.declared.runs.CoverRun.{CoverRun}
use Rattle.lh_term_cover.specs.Runs.{in_run, in_runs, IsBefore, RunIsBeforeAll, AreApart, IsCover, run_of, runs_of, touches, longer, merged_from, merged}

-- r begins no later than s
pub record StartsBy (r s : CoverRun) : Type 0 where
  pub arg : r.arg ≤ s.arg
  pub lo : r.arg ≡ s.arg → r.lo ≤ s.lo

-- r begins no later than the first
abbrev pub StartsFirst : CoverRun → List CoverRun → Type 0
StartsFirst r [] = Unit {0}
StartsFirst r (s ∷ ss) = StartsBy r s

-- each begins no later than the next
abbrev pub AreSorted : List CoverRun → Type 0
AreSorted [] = Unit {0}
AreSorted (r ∷ rs) = StartsFirst r rs × AreSorted rs

-- each has bits
abbrev pub AreFull : List CoverRun → Type 0
AreFull [] = Unit {0}
AreFull (r ∷ rs) = (r.lo < r.end) × AreFull rs

longer_starts : (last r : CoverRun) (rs : List CoverRun) → StartsBy last r → StartsFirst r rs → StartsFirst (longer last r) rs
longer_starts last r [] s t = tt
longer_starts last r (x ∷ xs) s t = record { arg = omega (arith, s.arg, t.arg); lo = λ e. omega (arith, s.arg, t.arg, s.lo, t.lo) }

before_longer : (x last r : CoverRun) → IsBefore x last → IsBefore x (longer last r)
before_longer x last r b = record { arg = b.arg; end = b.end }

before_next : (x last r : CoverRun) → IsBefore x last → StartsBy last r → IsBefore x r
before_next x last r b s = record { arg = omega (arith, b.arg, s.arg); end = λ e. omega (arith, b.arg, s.arg, b.end, s.lo) }

pub before_merged : (x last : CoverRun) (rs : List CoverRun) → IsBefore x last → StartsFirst last rs → AreSorted rs → RunIsBeforeAll x (merged_from last rs)
before_merged x last [] b s u = (b, tt)
before_merged x last (r ∷ rs) b s u =
    elim (touches last r) as (λ t. RunIsBeforeAll x (if t then merged_from (longer last r) rs else last ∷ merged_from r rs)) [
      | true ↦ before_merged x (longer last r) rs (before_longer x last r b) (longer_starts last r rs s u.0) u.1
      | false ↦ (b, before_merged x r rs (before_next x last r b s) u.0 u.1)
    ]

apart_next : (last r : CoverRun) → StartsBy last r → touches last r ≡ false → IsBefore last r
apart_next last r s e = record { arg = s.arg; end = λ a. past last.arg r.arg r.lo last.end e a }
  where
    past : (a b c d : ℕ) → (nat_eq a b && nat_le c d) ≡ false → a ≡ b → d < c
    past a b c d e p = grind (arith, nat_tests)

pub merged_apart : (last : CoverRun) (rs : List CoverRun) → last.lo < last.end → StartsFirst last rs → AreSorted rs → AreFull rs → AreApart (merged_from last rs)
merged_apart last [] f s u v = (f, tt, tt)
merged_apart last (r ∷ rs) f s u v =
    elim (touches last r) as (λ t. touches last r ≡ t → AreApart (if t then merged_from (longer last r) rs else last ∷ merged_from r rs)) [
      | true ↦ λ e. merged_apart (longer last r) rs (omega (arith, f)) (longer_starts last r rs s u.0) u.1 v.1
      | false ↦ λ e. (f, before_merged last r rs (apart_next last r s e) u.0 u.1, merged_apart r rs v.0 u.0 u.1 v.1)
    ] refl

-- a range with what another has after it
longer_bits : (last r : CoverRun) → StartsBy last r → touches last r ≡ true → (a b : ℕ) → in_run (longer last r) a b ≡ (in_run last a b || in_run r a b)
longer_bits last r s e a b = bits last.arg last.lo last.end r.arg r.lo r.end a b e s.lo
  where
    bits : (ra rl re sa sl se a b : ℕ) → (nat_eq ra sa && nat_le sl re) ≡ true → (ra ≡ sa → rl ≤ sl) →
        (nat_eq ra a && (nat_le rl b && nat_lt b (max re se))) ≡ ((nat_eq ra a && (nat_le rl b && nat_lt b re)) || (nat_eq sa a && (nat_le sl b && nat_lt b se)))
    bits ra rl re sa sl se a b e s = grind (arith, nat_tests)

pub merged_bits : (last : CoverRun) (rs : List CoverRun) → StartsFirst last rs → AreSorted rs → (a b : ℕ) → in_runs (merged_from last rs) a b ≡ (in_run last a b || in_runs rs a b)
merged_bits last [] s u a b = refl
merged_bits last (r ∷ rs) s u a b =
    elim (touches last r) as (λ t. touches last r ≡ t → in_runs (if t then merged_from (longer last r) rs else last ∷ merged_from r rs) a b ≡ (in_run last a b || (in_run r a b || in_runs rs a b))) [
      | true ↦ λ e.
          merged_bits (longer last r) rs (longer_starts last r rs s u.0) u.1 a b
          ∙ ap (λ x. x || in_runs rs a b) (longer_bits last r s e a b)
          ∙ or_assoc (in_run last a b) (in_run r a b) (in_runs rs a b)
      | false ↦ λ e. ap (λ x. in_run last a b || x) (merged_bits r rs u.0 u.1 a b)
    ] refl

pub all_apart : (rs : List CoverRun) → AreSorted rs → AreFull rs → AreApart (merged rs)
all_apart [] u v = tt
all_apart (r ∷ rs) u v = merged_apart r rs v.0 u.0 u.1 v.1

pub all_bits : (rs : List CoverRun) → AreSorted rs → (a b : ℕ) → in_runs (merged rs) a b ≡ in_runs rs a b
all_bits [] u a b = refl
all_bits (r ∷ rs) u a b = merged_bits r rs u.0 u.1 a b

-- ---- what is merged: the bits of parts, sorted

pub runs_full : (ps : List Part) → AreFull (runs_of ps)
runs_full [] = tt
runs_full (p ∷ ps) =
    elim (nat_lt p.lo (p.lo + bit_count p.ty)) as (λ t. nat_lt p.lo (p.lo + bit_count p.ty) ≡ t → AreFull (if t then run_of p ∷ runs_of ps else runs_of ps)) [
      | true ↦ λ e. (lt_from p.lo (p.lo + bit_count p.ty) e, runs_full ps)
      | false ↦ λ e. runs_full ps
    ] refl
  where
    lt_from : (x y : ℕ) → nat_lt x y ≡ true → x < y
    lt_from x y e = grind (arith, nat_tests)

pub runs_bits : (ps : List Part) (a b : ℕ) → in_runs (runs_of ps) a b ≡ is_waited ps a b
runs_bits [] a b = refl
runs_bits (p ∷ ps) a b =
    elim (nat_lt p.lo (p.lo + bit_count p.ty)) as (λ t. nat_lt p.lo (p.lo + bit_count p.ty) ≡ t → in_runs (if t then run_of p ∷ runs_of ps else runs_of ps) a b ≡ (has_bit p a b || is_waited ps a b)) [
      | true ↦ λ e. ap (λ x. has_bit p a b || x) (runs_bits ps a b)
      | false ↦ λ e. runs_bits ps a b ∙ sym (ap (λ x. x || is_waited ps a b) (none p.arg p.lo (p.lo + bit_count p.ty) a b e))
    ] refl
  where
    none : (pa l e a b : ℕ) → nat_lt l e ≡ false → (nat_eq pa a && (nat_le l b && nat_lt b e)) ≡ false
    none pa l e a b h = grind (arith, nat_tests)

full_by_index : (rs : List CoverRun) → AreFull rs → All (λ (r : CoverRun). r.lo < r.end) rs
full_by_index [] f = λ k d l. absurd (omega arith)
full_by_index (r ∷ rs) f = All-cons (λ (r : CoverRun). r.lo < r.end) r rs f.0 (full_by_index rs f.1)

full_from_index : (rs : List CoverRun) → All (λ (r : CoverRun). r.lo < r.end) rs → AreFull rs
full_from_index [] f = tt
full_from_index (r ∷ rs) f = (All-head (λ (r : CoverRun). r.lo < r.end) r rs f, full_from_index rs (All-tail (λ (r : CoverRun). r.lo < r.end) r rs f))

-- what the sort compares by
abbrev pub comes_before : CoverRun → CoverRun → Bool
comes_before r s = is_lt (ordering_then (nat_cmp r.arg s.arg) (ordering_then (nat_cmp r.lo s.lo) (nat_cmp r.end s.end)))

sorted_next : (rs : List CoverRun) → IsSortedBy comes_before rs → AreSorted rs
sorted_next [] h = tt
sorted_next (r ∷ []) h = (tt, tt)
sorted_next (r ∷ s ∷ rs) h = (
  next r.arg r.lo r.end s.arg s.lo s.end (h 0 r (omega arith) (omega arith)),
  sorted_next (s ∷ rs) (λ k d l m.
      let o : suc k + 1 ≡ suc (k + 1) = omega arith in
      subst (λ (j : ℕ). comes_before (get_or (r ∷ s ∷ rs) j d) (get_or (s ∷ rs) k d) ≡ false) o (h (suc k) d (omega arith) (omega arith))),
)
  where
    next : (ra rl re sa sl se : ℕ) → is_lt (ordering_then (nat_cmp sa ra) (ordering_then (nat_cmp sl rl) (nat_cmp se re))) ≡ false
        → StartsBy (record { arg = ra; lo = rl; end = re }) (record { arg = sa; lo = sl; end = se })
    next ra rl re sa sl se e = record { arg = grind (arith, nat_tests); lo = λ k. grind (arith, nat_tests) }

pub is_cover : (cover : Cover) (ps : List Part) (sorted : List CoverRun) → IsPermutation (runs_of ps) sorted →
    IsSortedBy comes_before sorted →
    cover.runs.items ≡ merged sorted → IsCover cover ps
is_cover cover ps sorted p s e =
    let u : AreSorted sorted = sorted_next sorted s in
    let f : AreFull sorted = full_from_index sorted (All-permutation (λ (r : CoverRun). r.lo < r.end) (runs_of ps) sorted p (full_by_index (runs_of ps) (runs_full ps))) in
    record {
      apart = subst AreApart (sym e) (all_apart sorted u f);
      bits = λ a b. ap (λ (rs : List CoverRun). in_runs rs a b) e ∙ all_bits sorted u a b ∙ sym (list_any-IsPermutation (λ (r : CoverRun). in_run r a b) (runs_of ps) sorted p) ∙ runs_bits ps a b;
    }
