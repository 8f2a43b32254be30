-- Truth values and tests of lists.
use Rattle.std.proofs.Common.{◌≡◌, ◌≢◌, Bool, true, false, not, cond, ◌||◌, List, [], ◌∷◌, ◌++◌, refl, sym, ap, ◌∙◌, inl, inr, if◌then◌else◌}
use Rattle.std.specs.List.{filter}
use Rattle.std.proofs.lemmas.Bool.{or_cases, or_left, or_right, false_from_ne_true}
use Rattle.std.specs.Cmp.{both_ways as same_bool}
use Rattle.lh_term.specs.Tree.{Tree}
use Rattle.lh_term.specs.SameTree.{same_tree, same_tree-is, same_tree-refl}
use Rattle.lh_edge.specs.Atoms.{has, each_once}
use Rattle.lh_edge.specs.Valuations.{differ}
use Rattle.lh_types.proofs.Tests.{not_both}

pub differ_is : (a b : Bool) → differ a b ≡ true → a ≢ b
differ_is true true e = cc
differ_is true false e = λ q. cc
differ_is false true e = λ q. cc
differ_is false false e = cc

pub is_differ : (a b : Bool) → a ≢ b → differ a b ≡ true
is_differ true true h = absurd (h refl)
is_differ true false h = refl
is_differ false true h = refl
is_differ false false h = absurd (h refl)

pub other_bit : (a b : Bool) → a ≢ b → a ≡ not b
other_bit true true h = absurd (h refl)
other_bit true false h = refl
other_bit false true h = refl
other_bit false false h = absurd (h refl)

pub not_own : (b : Bool) → not b ≢ b
not_own true e = cc
not_own false e = cc

-- ---- lists of terms

pub has_append : (xs ys : List Tree) (t : Tree) → has (xs ++ ys) t ≡ (has xs t || has ys t)
has_append [] ys t = refl
has_append (x ∷ xs) ys t = at (same_tree x t) (has_append xs ys t)
  where
    at : (b : Bool) → has (xs ++ ys) t ≡ (has xs t || has ys t) → (b || has (xs ++ ys) t) ≡ ((b || has xs t) || has ys t)
    at true e = refl
    at false e = e

pub has_left : (xs ys : List Tree) (t : Tree) → has xs t ≡ true → has (xs ++ ys) t ≡ true
has_left xs ys t h = has_append xs ys t ∙ or_left (has xs t) (has ys t) h

pub has_right : (xs ys : List Tree) (t : Tree) → has ys t ≡ true → has (xs ++ ys) t ≡ true
has_right xs ys t h = has_append xs ys t ∙ or_right (has xs t) (has ys t) h

pub has_filter : (f : Tree → Bool) (xs : List Tree) (t : Tree) → has (filter f xs) t ≡ true → (has xs t ≡ true) × (f t ≡ true)
has_filter f [] t h = cc
has_filter f (x ∷ xs) t h = at (f x) refl (has_filter f xs t) h
  where
    at : (b : Bool) → f x ≡ b → (has (filter f xs) t ≡ true → (has xs t ≡ true) × (f t ≡ true)) → has (cond b (x ∷ filter f xs) (filter f xs)) t ≡ true → ((same_tree x t || has xs t) ≡ true)
        × (f t ≡ true)
    at true e next h = elim (or_cases (same_tree x t) (has (filter f xs) t) h) [
      | inl s ↦ (or_left (same_tree x t) (has xs t) s, sym (ap f (same_tree-is x t s)) ∙ e)
      | inr r ↦ let k = next r in (or_right (same_tree x t) (has xs t) k.0, k.1)
    ]
    at false e next h = let k = next h in (or_right (same_tree x t) (has xs t) k.0, k.1)

pub filter_has : (f : Tree → Bool) (xs : List Tree) (t : Tree) → has xs t ≡ true → f t ≡ true → has (filter f xs) t ≡ true
filter_has f [] t h e = h
filter_has f (x ∷ xs) t h e = at (f x) refl (λ k. filter_has f xs t k e)
  where
    at : (b : Bool) → f x ≡ b → (has xs t ≡ true → has (filter f xs) t ≡ true) → has (cond b (x ∷ filter f xs) (filter f xs)) t ≡ true
    at true g next = elim (or_cases (same_tree x t) (has xs t) h) [
      | inl s ↦ or_left (same_tree x t) (has (filter f xs) t) s
      | inr r ↦ or_right (same_tree x t) (has (filter f xs) t) (next r)
    ]
    at false g next = elim (or_cases (same_tree x t) (has xs t) h) [
      | inl s ↦ absurd (not_both (f t) e (ap f (sym (same_tree-is x t s)) ∙ g))
      | inr r ↦ next r
    ]

pub not_in_filter : (f : Tree → Bool) (xs : List Tree) (t : Tree) → f t ≡ false → has (filter f xs) t ≡ false
not_in_filter f xs t e = false_from_ne_true (has (filter f xs) t) (λ h. not_both (f t) (has_filter f xs t h).1 e)

pub has_self : (t : Tree) (ts : List Tree) → has (t ∷ ts) t ≡ true
has_self t ts = or_left (same_tree t t) (has ts t) (same_tree-refl t)

pub has_once : (ts : List Tree) (t : Tree) → has (each_once ts) t ≡ has ts t
has_once [] t = refl
has_once (x ∷ xs) t = at (has xs x) refl (has_once xs t)
  where
    at : (b : Bool) → has xs x ≡ b → has (each_once xs) t ≡ has xs t → has (if b then each_once xs else x ∷ each_once xs) t ≡ (same_tree x t || has xs t)
    at true e next = next ∙ same_bool (has xs t) (same_tree x t || has xs t) (λ h. or_right (same_tree x t) (has xs t) h) (λ h. elim (or_cases (same_tree x t) (has xs t) h) [
      | inl s ↦ ap (has xs) (sym (same_tree-is x t s)) ∙ e
      | inr r ↦ r
    ])
    at false e next = ap (λ b. same_tree x t || b) next
