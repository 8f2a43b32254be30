-- Lists of terms in which none stands twice, and parts in order.
use Rattle.std.proofs.Common.{◌≡◌, ℕ, suc, ◌+◌, ◌≤◌, Bool, true, false, ◌&&◌, ◌||◌, nat_eq, nat_lt, nat_le, if◌then◌else◌, List, [], ◌∷◌, length, refl, sym, ap, ◌∙◌, inl, inr, arith}
use Rattle.std.specs.List.{list_any}
use Rattle.std.proofs.lemmas.Bool.Decides.{nat_tests}
use Rattle.std.specs.Cmp.{first_so}
use Rattle.std.proofs.lemmas.Bool.{or_cases, or_left, or_right, false_from_ne_true}
use Rattle.lh_types.specs.Types.{int_type}
use Rattle.lh_types.specs.Same.{same-is}
use Rattle.lh_types.proofs.Tests.{not_both}
use Rattle.lh_term.specs.declared.part.Part.{Part}
use Rattle.lh_term.specs.Same.{same_part, same_part-is, same_part-refl}
use Rattle.lh_term.specs.Tree.{Tree, constant, past_of, now_of, operation, choice_of}
use Rattle.lh_term.specs.SameTree.{same_tree, same_tree-is}
use Rattle.lh_edge.specs.Atoms.{has, each_once}
use Rattle.lh_edge.specs.Shown.{can_show, showing_parts}
use Rattle.lh_edge.specs.Triggers.{comes_first, with_part, in_order}
use Rattle.lh_edge.specs.Gates.{AllBit}
use Rattle.lh_edge.specs.Sorted.{DistinctParts}
use Rattle.lh_edge.specs.Steps.{AreDistinct}
use Rattle.lh_edge.proofs.Bools.{has_once, has_self}

-- ---- distinct terms

pub once_distinct : (ts : List Tree) → AreDistinct (each_once ts)
once_distinct [] = tt
once_distinct (t ∷ ts) = at (has ts t) refl (once_distinct ts)
  where
    at : (b : Bool) → has ts t ≡ b → AreDistinct (each_once ts) → AreDistinct (if b then each_once ts else t ∷ each_once ts)
    at true e r = r
    at false e r = (has_once ts t ∙ e, r)

-- the list without the first that is this term
abbrev pub without : Tree → List Tree → List Tree
without t [] = []
without t (u ∷ us) = if same_tree u t then us else u ∷ without t us

without_length : (t : Tree) (us : List Tree) → has us t ≡ true → length (without t us) + 1 ≡ length us
without_length t [] h = cc
without_length t (u ∷ us) h = at (same_tree u t) h (without_length t us)
  where
    at : (b : Bool) → (b || has us t) ≡ true → (has us t ≡ true → length (without t us) + 1 ≡ length us) → length (if b then us else u ∷ without t us) + 1 ≡ suc (length us)
    at true e next = omega arith
    at false e next = omega (arith, next e)

without_has : (t : Tree) (us : List Tree) (x : Tree) → has us x ≡ true → same_tree t x ≡ false → has (without t us) x ≡ true
without_has t [] x h e = h
without_has t (u ∷ us) x h e = at (same_tree u t) refl (λ k. without_has t us x k e)
  where
    at : (b : Bool) → same_tree u t ≡ b → (has us x ≡ true → has (without t us) x ≡ true) → has (if b then us else u ∷ without t us) x ≡ true
    at true k next = elim (or_cases (same_tree u x) (has us x) h) [
      | inl s ↦ absurd (not_both (same_tree t x) (ap (λ y. same_tree y x) (sym (same_tree-is u t k)) ∙ s) e)
      | inr r ↦ r
    ]
    at false k next = elim (or_cases (same_tree u x) (has us x) h) [
      | inl s ↦ or_left (same_tree u x) (has (without t us) x) s
      | inr r ↦ or_right (same_tree u x) (has (without t us) x) (next r)
    ]

-- as many as are in a list have its length at most
pub fits_in : (ts us : List Tree) → AreDistinct ts → ((x : Tree) → has ts x ≡ true → has us x ≡ true) → length ts ≤ length us
fits_in [] us d h = omega arith
fits_in (t ∷ ts) us d h =
    let k : length ts ≤ length (without t us) = fits_in ts (without t us) d.1 (λ x m. without_has t us x (h x (or_right (same_tree t x) (has ts x) m)) (other x m)) in
    let l : length (without t us) + 1 ≡ length us = without_length t us (h t (has_self t ts)) in
    omega arith
  where
    other : (x : Tree) → has ts x ≡ true → same_tree t x ≡ false
    other x m = false_from_ne_true (same_tree t x) (λ s. not_both (has ts t) (ap (has ts) (same_tree-is t x s) ∙ m) d.0)

-- ---- parts in order

pub first_of_two : (a b c d : ℕ) → (nat_lt a b || (nat_eq a b && nat_le c d)) ≡ false → (nat_lt b a || (nat_eq b a && nat_le d c)) ≡ true
first_of_two a b c d h = grind (arith, nat_tests)

both_first : (a b c d : ℕ) → (nat_lt a b || (nat_eq a b && nat_le c d)) ≡ true → (nat_lt b a || (nat_eq b a && nat_le d c)) ≡ true → (a ≡ b) × (c ≡ d)
both_first a b c d h k = (grind (arith, nat_tests), grind (arith, nat_tests))

pub first_on : (a b c d e f : ℕ) → (nat_lt a b || (nat_eq a b && nat_le d e)) ≡ true → (nat_lt b c || (nat_eq b c && nat_le e f)) ≡ true → (nat_lt a c || (nat_eq a c && nat_le d f)) ≡ true
first_on a b c d e f h k = grind (arith, nat_tests)

-- two parts of one bit that are not one: one of them comes first
one_first : (p q : Part) → p.ty ≡ q.ty → same_part p q ≡ false → comes_first p q ≡ true → comes_first q p ≡ false
one_first p q t s h = false_from_ne_true (comes_first q p) (λ k.
    let e = both_first p.arg q.arg p.lo q.lo h k in
    let one : p ≡ q = λ i. record { arg = e.0 i; lo = e.1 i; ty = t i } in
    not_both (same_part p q) (ap (same_part p) (sym one) ∙ same_part-refl p) s)

-- p, which comes before q, and q are put in
put_both : (p q : Part) → comes_first p q ≡ true → comes_first q p ≡ false → (xs : List Part) → with_part p (with_part q xs) ≡ with_part q (with_part p xs)
put_both p q h k [] = ap (λ b. if b then p ∷ q ∷ [] else q ∷ p ∷ []) h ∙ ap (λ b. if b then q ∷ p ∷ [] else p ∷ q ∷ []) (sym k)
put_both p q h k (x ∷ xs) = at (comes_first q x) refl (comes_first p x) refl (put_both p q h k xs)
  where
    first : (ys : List Part) → with_part p (q ∷ ys) ≡ p ∷ q ∷ ys
    first ys = ap (λ b. if b then p ∷ q ∷ ys else q ∷ with_part p ys) h

    second : (ys : List Part) → with_part q (p ∷ ys) ≡ p ∷ with_part q ys
    second ys = ap (λ b. if b then q ∷ p ∷ ys else p ∷ with_part q ys) k

    at : (b : Bool) → comes_first q x ≡ b → (c : Bool) → comes_first p x ≡ c → with_part p (with_part q xs) ≡ with_part q (with_part p xs) →
        with_part p (if b then q ∷ x ∷ xs else x ∷ with_part q xs) ≡ with_part q (if c then p ∷ x ∷ xs else x ∷ with_part p xs)
    at true e true f next = first (x ∷ xs) ∙ ap (λ b. p ∷ (if b then q ∷ x ∷ xs else x ∷ with_part q xs)) (sym e) ∙ sym (second (x ∷ xs))
    at true e false f next = absurd (not_both (comes_first p x) (first_on p.arg q.arg x.arg p.lo q.lo x.lo h e) f)
    at false e true f next =
        ap (λ b. if b then p ∷ x ∷ with_part q xs else x ∷ with_part p (with_part q xs)) f
        ∙ ap (λ b. p ∷ (if b then q ∷ x ∷ xs else x ∷ with_part q xs)) (sym e) ∙ sym (second (x ∷ xs))
    at false e false f next =
        ap (λ b. if b then p ∷ x ∷ with_part q xs else x ∷ with_part p (with_part q xs)) f
        ∙ ap (λ r. x ∷ r) next
        ∙ ap (λ b. if b then q ∷ x ∷ with_part p xs else x ∷ with_part q (with_part p xs)) (sym e)

pub put_either : (p q : Part) → p.ty ≡ q.ty → same_part p q ≡ false → (xs : List Part) → with_part p (with_part q xs) ≡ with_part q (with_part p xs)
put_either p q t s xs = at (comes_first p q) refl
  where
    other : same_part q p ≡ false
    other = false_from_ne_true (same_part q p) (λ k. not_both (same_part p q) (ap (same_part p) (same_part-is q p k) ∙ same_part-refl p) s)

    at : (b : Bool) → comes_first p q ≡ b → with_part p (with_part q xs) ≡ with_part q (with_part p xs)
    at true h = put_both p q h (one_first p q t s h) xs
    at false h =
        let k : comes_first q p ≡ true = first_of_two p.arg q.arg p.lo q.lo h in
        sym (put_both q p k h xs)

-- the parts without the first that is this one
abbrev pub but : Part → List Part → List Part
but p [] = []
but p (q ∷ qs) = if same_part q p then qs else q ∷ but p qs

pub but_bit : (p : Part) (qs : List Part) → AllBit qs → AllBit (but p qs)
but_bit p [] h = h
but_bit p (q ∷ qs) h = at (same_part q p) (but_bit p qs h.1)
  where
    at : (b : Bool) → AllBit (but p qs) → AllBit (if b then qs else q ∷ but p qs)
    at true r = h.1
    at false r = (h.0, r)

-- a part of the list is put in last
pull : (p : Part) (qs : List Part) → p.ty ≡ int_type 1 → AllBit qs → list_any (same_part p) qs ≡ true → in_order qs ≡ with_part p (in_order (but p qs))
pull p [] t h e = cc
pull p (q ∷ qs) t h e = at (same_part q p) refl (pull p qs t h.1)
  where
    turned : (b : Bool) → same_part q p ≡ b → same_part p q ≡ b
    turned true k = ap (same_part p) (same_part-is q p k) ∙ same_part-refl p
    turned false k = false_from_ne_true (same_part p q) (λ s. not_both (same_part q p) (ap (same_part q) (same_part-is p q s) ∙ same_part-refl q) k)

    at : (b : Bool) → same_part q p ≡ b → (list_any (same_part p) qs ≡ true → in_order qs ≡ with_part p (in_order (but p qs))) →
        with_part q (in_order qs) ≡ with_part p (in_order (if b then qs else q ∷ but p qs))
    at true k next = ap (λ x. with_part x (in_order qs)) (same_part-is q p k)
    at false k next =
        let m : list_any (same_part p) qs ≡ true = ap (λ b. b || list_any (same_part p) qs) (sym (turned false k)) ∙ e in
        ap (with_part q) (next m) ∙ put_either q p (h.0 ∙ sym t) k (in_order (but p qs))

but_any : (p : Part) (qs : List Part) (x : Part) → same_part p x ≡ false → list_any (same_part x) (but p qs) ≡ list_any (same_part x) qs
but_any p [] x s = refl
but_any p (q ∷ qs) x s = at (same_part q p) refl (but_any p qs x s)
  where
    at : (b : Bool) → same_part q p ≡ b → list_any (same_part x) (but p qs) ≡ list_any (same_part x) qs
        → list_any (same_part x) (if b then qs else q ∷ but p qs) ≡ (same_part x q || list_any (same_part x) qs)
    at true k r =
        let n : same_part x q ≡ false = false_from_ne_true (same_part x q) (λ m. not_both (same_part p x) (ap (same_part p) (same_part-is x q m ∙ same_part-is q p k) ∙ same_part-refl p) s) in
        ap (λ b. b || list_any (same_part x) qs) (sym n)
    at false k r = ap (λ b. same_part x q || b) r

but_distinct : (p : Part) (qs : List Part) → DistinctParts qs → DistinctParts (but p qs)
but_distinct p [] h = h
but_distinct p (q ∷ qs) h = at (same_part q p) refl (but_distinct p qs h.1)
  where
    at : (b : Bool) → same_part q p ≡ b → DistinctParts (but p qs) → DistinctParts (if b then qs else q ∷ but p qs)
    at true k r = h.1
    at false k r =
        let n : same_part p q ≡ false = false_from_ne_true (same_part p q) (λ m. not_both (same_part q p) (ap (same_part q) (same_part-is p q m) ∙ same_part-refl q) k) in
        (but_any p qs q n ∙ h.0, r)

but_gone : (p : Part) (qs : List Part) → DistinctParts qs → list_any (same_part p) (but p qs) ≡ false
but_gone p [] h = refl
but_gone p (q ∷ qs) h = at (same_part q p) refl (but_gone p qs h.1)
  where
    at : (b : Bool) → same_part q p ≡ b → list_any (same_part p) (but p qs) ≡ false → list_any (same_part p) (if b then qs else q ∷ but p qs) ≡ false
    at true k r = ap (λ x. list_any (same_part x) qs) (sym (same_part-is q p k)) ∙ h.0
    at false k r =
        let n : same_part p q ≡ false = false_from_ne_true (same_part p q) (λ m. not_both (same_part q p) (ap (same_part q) (same_part-is p q m) ∙ same_part-refl q) k) in
        ap (λ b. b || list_any (same_part p) (but p qs)) n ∙ r

-- lists of the same parts, each once, have one order
pub one_order : (ps qs : List Part) → AllBit ps → AllBit qs → DistinctParts ps → DistinctParts qs → ((x : Part) → list_any (same_part x) ps ≡ list_any (same_part x) qs) → in_order ps ≡ in_order qs
one_order [] [] a b d e s = refl
one_order [] (q ∷ qs) a b d e s = absurd (let h : false ≡ true = s q ∙ or_left (same_part q q) (list_any (same_part q) qs) (same_part-refl q) in cc)
one_order (p ∷ ps) qs a b d e s =
    let there : list_any (same_part p) qs ≡ true = sym (s p) ∙ or_left (same_part p p) (list_any (same_part p) ps) (same_part-refl p) in
    ap (with_part p) (one_order ps (but p qs) a.1 (but_bit p qs b) d.1 (but_distinct p qs e) (λ x. same x (same_part p x) refl)) ∙ sym (pull p qs a.0 b there)
  where
    same : (x : Part) (c : Bool) → same_part p x ≡ c → list_any (same_part x) ps ≡ list_any (same_part x) (but p qs)
    same x true k =
        let one : p ≡ x = same_part-is p x k in
        ap (λ y. list_any (same_part y) ps) (sym one) ∙ d.0 ∙ sym (but_gone p qs e) ∙ ap (λ y. list_any (same_part y) (but p qs)) one
    same x false k =
        let n : same_part x p ≡ false = false_from_ne_true (same_part x p) (λ m. not_both (same_part p x) (ap (same_part p) (same_part-is x p m) ∙ same_part-refl p) k) in
        ap (λ c. c || list_any (same_part x) ps) (sym n) ∙ s x ∙ sym (but_any p qs x k)

-- ---- the parts that can show

pub showing_any : (waited : List Part) (ts : List Tree) (q : Part) → list_any (same_part q) (showing_parts waited ts) ≡ (can_show waited q && has ts (past_of q))
showing_any waited [] q = at (can_show waited q)
  where
    at : (b : Bool) → false ≡ (b && false)
    at true = refl
    at false = refl
showing_any waited (past_of p ∷ ts) q = at (can_show waited p) refl (same_part p q) refl (showing_any waited ts q)
  where
    turned : (b : Bool) → same_part p q ≡ b → same_part q p ≡ b
    turned true k = ap (same_part q) (same_part-is p q k) ∙ same_part-refl q
    turned false k = false_from_ne_true (same_part q p) (λ s. not_both (same_part p q) (ap (same_part p) (same_part-is q p s) ∙ same_part-refl p) k)

    and_or : (a b : Bool) → (a && (true || b)) ≡ a
    and_or true b = refl
    and_or false b = refl

    at : (b : Bool) → can_show waited p ≡ b → (c : Bool) → same_part p q ≡ c → list_any (same_part q) (showing_parts waited ts) ≡ (can_show waited q && has ts (past_of q)) →
        list_any (same_part q) (if b then p ∷ showing_parts waited ts else showing_parts waited ts) ≡ (can_show waited q && (c || has ts (past_of q)))
    at true e true k r =
        ap (λ b. b || list_any (same_part q) (showing_parts waited ts)) (turned true k) ∙ sym e ∙ ap (can_show waited) (same_part-is p q k) ∙ sym (and_or (can_show waited q) (has ts (past_of q)))
    at true e false k r = ap (λ b. b || list_any (same_part q) (showing_parts waited ts)) (turned false k) ∙ r
    at false e true k r =
        let n : can_show waited q ≡ false = ap (can_show waited) (sym (same_part-is p q k)) ∙ e in
        r ∙ ap (λ b. b && has ts (past_of q)) n ∙ ap (λ b. b && true) (sym n)
    at false e false k r = r
showing_any waited (constant v ∷ ts) q = showing_any waited ts q
showing_any waited (now_of p ∷ ts) q = showing_any waited ts q
showing_any waited (operation op us ∷ ts) q = showing_any waited ts q
showing_any waited (choice_of a b t ∷ ts) q = showing_any waited ts q

pub showing_bit : (waited : List Part) (ts : List Tree) → AllBit (showing_parts waited ts)
showing_bit waited [] = tt
showing_bit waited (past_of p ∷ ts) = at (can_show waited p) refl (showing_bit waited ts)
  where
    at : (b : Bool) → can_show waited p ≡ b → AllBit (showing_parts waited ts) → AllBit (if b then p ∷ showing_parts waited ts else showing_parts waited ts)
    at true e r = (same-is p.ty (int_type 1) (first_so _ _ e), r)
    at false e r = r
showing_bit waited (constant v ∷ ts) = showing_bit waited ts
showing_bit waited (now_of p ∷ ts) = showing_bit waited ts
showing_bit waited (operation op us ∷ ts) = showing_bit waited ts
showing_bit waited (choice_of a b t ∷ ts) = showing_bit waited ts

pub showing_distinct : (waited : List Part) (ts : List Tree) → AreDistinct ts → DistinctParts (showing_parts waited ts)
showing_distinct waited [] d = tt
showing_distinct waited (past_of p ∷ ts) d = at (can_show waited p) (showing_distinct waited ts d.1)
  where
    none : (a : Bool) → (a && false) ≡ false
    none true = refl
    none false = refl

    at : (b : Bool) → DistinctParts (showing_parts waited ts) → DistinctParts (if b then p ∷ showing_parts waited ts else showing_parts waited ts)
    at true r = (showing_any waited ts p ∙ ap (λ b. can_show waited p && b) d.0 ∙ none (can_show waited p), r)
    at false r = r
showing_distinct waited (constant v ∷ ts) d = showing_distinct waited ts d.1
showing_distinct waited (now_of p ∷ ts) d = showing_distinct waited ts d.1
showing_distinct waited (operation op us ∷ ts) d = showing_distinct waited ts d.1
showing_distinct waited (choice_of a b t ∷ ts) d = showing_distinct waited ts d.1

-- terms of one set, each once, show the same parts in one order
pub showing_one : (waited : List Part) (ts us : List Tree) → AreDistinct ts → AreDistinct us → ((x : Tree) → has ts x ≡ has us x)
    → in_order (showing_parts waited ts) ≡ in_order (showing_parts waited us)
showing_one waited ts us d e s =
    one_order (showing_parts waited ts) (showing_parts waited us) (showing_bit waited ts) (showing_bit waited us) (showing_distinct waited ts d) (showing_distinct waited us e)
    (λ q. showing_any waited ts q ∙ ap (λ b. can_show waited q && b) (s (past_of q)) ∙ sym (showing_any waited us q))

pub with_bit_part : (p : Part) (ps : List Part) → p.ty ≡ int_type 1 → AllBit ps → AllBit (with_part p ps)
with_bit_part p [] e h = (e, tt)
with_bit_part p (q ∷ ps) e h = at (comes_first p q) (with_bit_part p ps e h.1)
  where
    at : (b : Bool) → AllBit (with_part p ps) → AllBit (if b then p ∷ q ∷ ps else q ∷ with_part p ps)
    at true r = (e, h)
    at false r = (h.0, r)

pub order_bit : (ps : List Part) → AllBit ps → AllBit (in_order ps)
order_bit [] h = tt
order_bit (p ∷ ps) h = with_bit_part p (in_order ps) h.0 (order_bit ps h.1)
