-- A walk over terms: those that are still to be looked at are taken from the last one on.
use Rattle.std.proofs.Common.{◌≡◌, ℕ, zero, suc, ◌<◌, ◌⊎◌, inl, inr, Bool, true, false, ◌||◌, nat_eq, nat_lt, List, [], ◌∷◌, ◌++◌, length, drop, get_or, refl, ap, sym, ◌∙◌, subst, arith, Some, slice_get, ltb-true, lt-ltb}
use Rattle.std.specs.Ordering.{nat_cmp}
use Rattle.std.specs.List.{list_any}
use Rattle.std.specs.Cmp.{first_so, second_so}
use Rattle.std.specs.BTreeMap.{is_at}
use Rattle.std.specs.BTreeSet as sorted
use Rattle.std.specs.BTreeSet.{BTreeSet}
use Rattle.std.proofs.lemmas.Bool.{or_cases, or_left, or_right}
use Rattle.std.proofs.Math.Bool.{or-false}
use Rattle.lh_types.specs.Same.{nat_eq-refl, nat_eq-is}
use Rattle.lh_term.specs.Arena.{terms_in, ids_below, AreIn}
use Rattle.lh_term.specs.Reach.{Leads, is_on, AllPass, LeavesChildren, LooksFurther, GoOn, none_left, PassesOn, AreReached}
use Rattle.lh_term.specs.declared.term.TermId.{TermId}
use Rattle.lh_term.specs.declared.term.Term.{Term}
use Rattle.lh_term.specs.declared.term.TermNode.{TermNode}
use Rattle.lh_term.proofs.Greatest.{Taken}

-- ---- ids on a list

pub on_front : (xs ys : List TermId) (i : ℕ) → is_on xs i ≡ true → is_on (xs ++ ys) i ≡ true
on_front [] ys i h = cc
on_front (x ∷ xs) ys i h = elim (or_cases (nat_eq i x.0) (is_on xs i) h) [
  | inl e ↦ or_left (nat_eq i x.0) (is_on (xs ++ ys) i) e
  | inr r ↦ or_right (nat_eq i x.0) (is_on (xs ++ ys) i) (on_front xs ys i r)
]

pub on_last : (xs : List TermId) (x : TermId) → is_on (xs ++ x ∷ []) x.0 ≡ true
on_last [] x = or_left (nat_eq x.0 x.0) false (nat_eq-refl x.0)
on_last (y ∷ xs) x = or_right (nat_eq x.0 y.0) (is_on (xs ++ x ∷ []) x.0) (on_last xs x)

pub on_push : (xs : List TermId) (x : TermId) (i : ℕ) → is_on (xs ++ x ∷ []) i ≡ true → (i ≡ x.0) ⊎ (is_on xs i ≡ true)
on_push [] x i h = elim (or_cases (nat_eq i x.0) false h) [ inl e ↦ inl (nat_eq-is i x.0 e) | inr r ↦ cc ]
on_push (y ∷ xs) x i h = elim (or_cases (nat_eq i y.0) (is_on (xs ++ x ∷ []) i) h) [
  | inl e ↦ inr (or_left (nat_eq i y.0) (is_on xs i) e)
  | inr r ↦ elim (on_push xs x i r) [ inl p ↦ inl p | inr p ↦ inr (or_right (nat_eq i y.0) (is_on xs i) p) ]
]

pub on_below : (n : ℕ) (xs : List TermId) (i : ℕ) → ids_below n xs ≡ true → is_on xs i ≡ true → i < n
on_below n [] i h o = cc
on_below n (x ∷ xs) i h o = elim (or_cases (nat_eq i x.0) (is_on xs i) o) [
  | inl e ↦ let l : x.0 < n = ltb-true x.0 n (first_so (nat_lt x.0 n) (ids_below n xs) h) in let p : i ≡ x.0 = nat_eq-is i x.0 e in omega arith
  | inr r ↦ on_below n xs i (second_so (nat_lt x.0 n) (ids_below n xs) h) r
]

pub on_at : (xs : List TermId) (i : ℕ) (d : TermId) → i < length xs → is_on xs (get_or xs i d).0 ≡ true
on_at [] i d l = absurd (omega arith)
on_at (x ∷ xs) zero d l = or_left (nat_eq x.0 x.0) (is_on xs x.0) (nat_eq-refl x.0)
on_at (x ∷ xs) (suc i) d l = or_right (nat_eq (get_or xs i d).0 x.0) (is_on xs (get_or xs i d).0) (on_at xs i d (omega arith))

pub pass_on : (f : ℕ → Bool) (xs : List TermId) (i : ℕ) → AllPass f xs → is_on xs i ≡ true → f i ≡ true
pass_on f [] i h o = cc
pass_on f (x ∷ xs) i h o = elim (or_cases (nat_eq i x.0) (is_on xs i) o) [
  | inl e ↦ ap f (nat_eq-is i x.0 e) ∙ h.0
  | inr r ↦ pass_on f xs i h.1 r
]

pub pass_more : (f g : ℕ → Bool) (xs : List TermId) → ((i : ℕ) → f i ≡ true → g i ≡ true) → AllPass f xs → AllPass g xs
pass_more f g [] k h = tt
pass_more f g (x ∷ xs) k h = (k x.0 h.0, pass_more f g xs k h.1)

pub pass_own : (f : ℕ → Bool) (xs : List TermId) → ((i : ℕ) → is_on xs i ≡ true → f i ≡ true) → AllPass f xs
pass_own f [] k = tt
pass_own f (x ∷ xs) k = (k x.0 (or_left (nat_eq x.0 x.0) (is_on xs x.0) (nat_eq-refl x.0)), pass_own f xs (λ i o. k i (or_right (nat_eq i x.0) (is_on xs i) o)))

pass_push : (f : ℕ → Bool) (xs : List TermId) (x : TermId) → AllPass f xs → f x.0 ≡ true → AllPass f (xs ++ x ∷ [])
pass_push f [] x h e = (e, tt)
pass_push f (y ∷ xs) x h e = (h.0, pass_push f xs x h.1 e)

pub in_push : (n : ℕ) (xs : List TermId) (x : TermId) → ids_below n xs ≡ true → x.0 < n → ids_below n (xs ++ x ∷ []) ≡ true
in_push n [] x h l = let e = lt-ltb x.0 n l in rw e refl
in_push n (y ∷ xs) x h l =
    let e : nat_lt y.0 n ≡ true = first_so (nat_lt y.0 n) (ids_below n xs) h in
    let r = in_push n xs x (second_so (nat_lt y.0 n) (ids_below n xs) h) l in
    rw e r

-- ---- the terms so far

-- what is right while some terms, that the test f passes, are still to be looked at
pub record ReachedSoFar (leads : Leads) (ns : List TermNode) (xs : List TermId) (f : ℕ → Bool) (ids : List TermId) : Type 0 where
  pub below : (q : ℕ) → f q ≡ true → q < length ns
  pub are_in : AreIn ns ids
  pub there : AllPass (λ i. is_on ids i || f i) xs
  pub go_on : GoOn leads ns f ids
  pub only : (p : ℕ → Bool) → PassesOn leads ns p → AllPass p xs → AllPass p ids
  pub left : (p : ℕ → Bool) → PassesOn leads ns p → AllPass p xs → (q : ℕ) → f q ≡ true → p q ≡ true

pub reached_start : (leads : Leads) (ns : List TermNode) (xs : List TermId) (s : BTreeSet ℕ) (f : ℕ → Bool) → AreIn ns xs → s.keys ≡ [] → ((q : ℕ) → f q ≡ (is_on xs q || sorted.contains nat_cmp s q))
    → ReachedSoFar leads ns xs f []
reached_start leads ns xs s f i e h = record {
  below = λ q t. on_below (length ns) xs q i (sym (is q) ∙ t);
  are_in = refl;
  there = pass_own f xs (λ q o. is q ∙ o);
  go_on = tt;
  only = λ p c t. tt;
  left = λ p c t q o. pass_on p xs q t (sym (is q) ∙ o);
}
  where
    is : (q : ℕ) → f q ≡ is_on xs q
    is q = h q ∙ ap (λ ks. is_on xs q || list_any (is_at (nat_cmp q)) ks) e ∙ or-false (is_on xs q)

go_on_push : (leads : Leads) (ns : List TermNode) (f g : ℕ → Bool) (ids : List TermId) (x : TermId) → ((more : List TermId) (i : ℕ) → (is_on more i || f i) ≡ true → (is_on (more ++ x ∷ []) i || g i) ≡ true)
    → ((k : Term) → slice_get (terms_in ns) x.0 ≡ Some k → LooksFurther leads ns g x [] k) → GoOn leads ns f ids → GoOn leads ns g (ids ++ x ∷ [])
go_on_push leads ns f g [] x h s r = (s, tt)
go_on_push leads ns f g (y ∷ ids) x h s r = (
  λ k at. let o = r.0 k at in record { shown = o.shown; on = pass_more (λ i. is_on ids i || f i) (λ i. is_on (ids ++ x ∷ []) i || g i) (leads k) (h ids) o.on },
  go_on_push leads ns f g ids x h s r.1,
)

-- a term was looked at
pub reached_next : (leads : Leads) (ns : List TermNode) (xs ids : List TermId) (f g h : ℕ → Bool) (x : TermId) (k : Term) → slice_get (terms_in ns) x.0 ≡ Some k → Taken f g x.0
    → LeavesChildren leads ns x g h k → ReachedSoFar leads ns xs f ids → ReachedSoFar leads ns xs h (ids ++ x ∷ [])
reached_next leads ns xs ids f g h x k at t u s = record {
  below = λ q e. elim (cases q e) [
    | inl o ↦ let a : q < x.0 = on_below x.0 to q u.below o in let b : x.0 < length ns = s.below x.0 t.was in omega arith
    | inr r ↦ s.below q (t.from q r)
  ];
  are_in = in_push (length ns) ids x s.are_in (s.below x.0 t.was);
  there = pass_more (λ i. is_on ids i || f i) (λ i. is_on (ids ++ x ∷ []) i || h i) xs (still ids) s.there;
  go_on = go_on_push leads ns f h ids x still (λ m is. subst (λ (z : Term). LooksFurther leads ns h x [] z) (same m is) (record { shown = u.shown; on = pass_own h to from_own })) s.go_on;
  only = λ p c e. pass_push p ids x (s.only p c e) (s.left p c e x.0 t.was);
  left = λ p c e q o. elim (cases q o) [
    | inl z ↦ pass_on p to q (c x.0 k at u.shown (s.left p c e x.0 t.was)) z
    | inr z ↦ s.left p c e q (t.from q z)
  ];
}
  where
    to : List TermId
    to = leads k

    cases : (q : ℕ) → h q ≡ true → (is_on to q ≡ true) ⊎ (g q ≡ true)
    cases q e = or_cases (is_on to q) (g q) (sym (u.left q) ∙ e)

    same : (m : Term) → slice_get (terms_in ns) x.0 ≡ Some m → k ≡ m
    same m is = let e : Some k ≡ Some m = sym at ∙ is in cc

    from_own : (i : ℕ) → is_on to i ≡ true → h i ≡ true
    from_own i o = u.left i ∙ or_left (is_on to i) (g i) o

    still : (more : List TermId) (i : ℕ) → (is_on more i || f i) ≡ true → (is_on (more ++ x ∷ []) i || h i) ≡ true
    still more i e = elim (or_cases (is_on more i) (f i) e) [
      | inl o ↦ or_left (is_on (more ++ x ∷ []) i) (h i) (on_front more (x ∷ []) i o)
      | inr o ↦ elim (t.others i o) [
        | inl p ↦ or_left (is_on (more ++ x ∷ []) i) (h i) (subst (λ (j : ℕ). is_on (more ++ x ∷ []) j ≡ true) p (on_last more x))
        | inr p ↦ or_right (is_on (more ++ x ∷ []) i) (h i) (u.left i ∙ or_right (is_on to i) (g i) p)
      ]
    ]

-- what is left to be looked at is before the term
pub next_less : (leads : Leads) (ns : List TermNode) (f g h : ℕ → Bool) (x : TermId) (k : Term) → Taken f g x.0 → LeavesChildren leads ns x g h k → (q : ℕ) → h q ≡ true → q < x.0
next_less leads ns f g h x k t u q e = elim (or_cases (is_on (leads k) q) (g q) (sym (u.left q) ∙ e)) [
  | inl o ↦ on_below x.0 (leads k) q u.below o
  | inr r ↦ t.less q r
]

go_on_end : (leads : Leads) (ns : List TermNode) (f : ℕ → Bool) (ids : List TermId) → ((q : ℕ) → f q ≡ false) → GoOn leads ns f ids → GoOn leads ns none_left ids
go_on_end leads ns f [] n r = tt
go_on_end leads ns f (x ∷ ids) n r = (
  λ k at. let o = r.0 k at in record { shown = o.shown; on = pass_more (λ i. is_on ids i || f i) (λ i. is_on ids i || false) (leads k) (λ i e. ap (λ b. is_on ids i || b) (sym (n i)) ∙ e) o.on },
  go_on_end leads ns f ids n r.1,
)

pub reached_end : (leads : Leads) (ns : List TermNode) (xs : List TermId) (f : ℕ → Bool) (ids : List TermId) → ((q : ℕ) → f q ≡ false) → ReachedSoFar leads ns xs f ids → AreReached leads ns xs ids
reached_end leads ns xs f ids n s = record {
  are_in = s.are_in;
  there = pass_more (λ i. is_on ids i || f i) (is_on ids) xs (λ i e. sym (ap (λ b. is_on ids i || b) (n i) ∙ or-false (is_on ids i)) ∙ e) s.there;
  go_on = go_on_end leads ns f ids n s.go_on;
  only = s.only;
}

-- ---- one of those that were reached

or_false : (a : Bool) → (a || false) ≡ true → a ≡ true
or_false true e = refl
or_false false e = e

pub is_behind : (leads : Leads) (ns : List TermNode) (x : TermId) (more : List TermId) (k : Term) → LooksFurther leads ns none_left x more k → AllPass (is_on more) (leads k)
is_behind leads ns x more k o = pass_more (λ i. is_on more i || false) (is_on more) (leads k) (λ i e. or_false (is_on more i) e) o.on

-- those to which the term at a place leads are behind it
pub behind : (leads : Leads) (ns : List TermNode) (ids : List TermId) (j : ℕ) (d : TermId) (k : Term) → GoOn leads ns none_left ids → j < length ids → slice_get (terms_in ns) (get_or ids j d).0 ≡ Some k
    → AllPass (is_on (drop (suc j) ids)) (leads k)
behind leads ns [] j d k g l at = absurd (omega arith)
behind leads ns (x ∷ ids) zero d k g l at = is_behind leads ns x ids k (g.0 k at)
behind leads ns (x ∷ ids) (suc j) d k g l at = behind leads ns ids j d k g.1 (omega arith) at
