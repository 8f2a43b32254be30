-- The parts of triggers are sorted, each stands once, and they are those that can show.
use Rattle.std.proofs.Common.{◌≡◌, Bool, true, false, ◌||◌, if◌then◌else◌, List, [], ◌∷◌, refl, sym, ap, ◌∙◌}
use Rattle.std.specs.List.{list_any}
use Rattle.std.proofs.lemmas.Bool.{false_from_ne_true, false≢true}
use Rattle.lh_types.proofs.Tests.{not_both}
use Rattle.lh_term.specs.declared.part.Part.{Part}
use Rattle.lh_term.specs.Same.{same_part, same_part-is, same_part-refl}
use Rattle.lh_edge.specs.Atoms.{edge_part, atoms_of}
use Rattle.lh_edge.specs.Shown.{showing_parts}
use Rattle.lh_edge.specs.Triggers.{comes_first, with_part, in_order, triggers_of}
use Rattle.lh_edge.specs.Sorted.{IsBefore, AreSorted, DistinctParts, AreShowing, TriggersAreInOrder}
use Rattle.lh_edge.proofs.Checked.{atoms_distinct}
use Rattle.lh_edge.proofs.Once.{first_of_two, first_on, showing_any, showing_distinct}

-- ---- sorted

before-all : (p q : Part) (ps : List Part) → comes_first p q ≡ true → IsBefore q ps → IsBefore p ps
before-all p q [] e h = tt
before-all p q (x ∷ ps) e h = (first_on p.arg q.arg x.arg p.lo q.lo x.lo e h.0, before-all p q ps e h.1)

before-put : (q p : Part) (ps : List Part) → comes_first q p ≡ true → IsBefore q ps → IsBefore q (with_part p ps)
before-put q p [] e h = (e, tt)
before-put q p (x ∷ ps) e h = at (comes_first p x) (before-put q p ps e h.1)
  where
    at : (b : Bool) → IsBefore q (with_part p ps) → IsBefore q (if b then p ∷ x ∷ ps else x ∷ with_part p ps)
    at true r = (e, h)
    at false r = (h.0, r)

sorted-put : (p : Part) (ps : List Part) → AreSorted ps → AreSorted (with_part p ps)
sorted-put p [] h = (tt, tt)
sorted-put p (x ∷ ps) h = at (comes_first p x) refl (sorted-put p ps h.1)
  where
    at : (b : Bool) → comes_first p x ≡ b → AreSorted (with_part p ps) → AreSorted (if b then p ∷ x ∷ ps else x ∷ with_part p ps)
    at true e r = ((e, before-all p x ps e h.0), h)
    at false e r = (before-put x p ps (first_of_two p.arg x.arg p.lo x.lo e) h.0, r)

sorted : (ps : List Part) → AreSorted (in_order ps)
sorted [] = tt
sorted (p ∷ ps) = sorted-put p (in_order ps) (sorted ps)

-- ---- the same parts, each once

any-put : (q p : Part) (ps : List Part) → list_any (same_part q) (with_part p ps) ≡ (same_part q p || list_any (same_part q) ps)
any-put q p [] = refl
any-put q p (x ∷ ps) = at (comes_first p x) (any-put q p ps)
  where
    turned : (a b c : Bool) → (a || (b || c)) ≡ (b || (a || c))
    turned true true c = refl
    turned true false c = refl
    turned false b c = refl

    at : (b : Bool) → list_any (same_part q) (with_part p ps) ≡ (same_part q p || list_any (same_part q) ps)
        → list_any (same_part q) (if b then p ∷ x ∷ ps else x ∷ with_part p ps) ≡ (same_part q p || (same_part q x || list_any (same_part q) ps))
    at true r = refl
    at false r = ap (λ b. same_part q x || b) r ∙ turned (same_part q x) (same_part q p) (list_any (same_part q) ps)

any-order : (q : Part) (ps : List Part) → list_any (same_part q) (in_order ps) ≡ list_any (same_part q) ps
any-order q [] = refl
any-order q (p ∷ ps) = any-put q p (in_order ps) ∙ ap (λ b. same_part q p || b) (any-order q ps)

other-way : (p q : Part) → same_part p q ≡ false → same_part q p ≡ false
other-way p q e = false_from_ne_true (same_part q p) (λ k. not_both (same_part p q) (ap (same_part p) (same_part-is q p k) ∙ same_part-refl p) e)

distinct-put : (p : Part) (ps : List Part) → list_any (same_part p) ps ≡ false → DistinctParts ps → DistinctParts (with_part p ps)
distinct-put p [] n h = (refl, tt)
distinct-put p (x ∷ ps) n h = by (same_part p x) refl n (distinct-put p ps)
  where
    by : (a : Bool) → same_part p x ≡ a → (a || list_any (same_part p) ps) ≡ false → (list_any (same_part p) ps ≡ false → DistinctParts ps → DistinctParts (with_part p ps))
        → DistinctParts (if comes_first p x then p ∷ x ∷ ps else x ∷ with_part p ps)
    by true q m go = absurd (false≢true (sym m))
    by false q m go = at (comes_first p x)
      where
        at : (b : Bool) → DistinctParts (if b then p ∷ x ∷ ps else x ∷ with_part p ps)
        at true = (n, h)
        at false = (any-put x p ps ∙ ap (λ b. b || list_any (same_part x) ps) (other-way p x q) ∙ h.0, go m h.1)

distinct : (ps : List Part) → DistinctParts ps → DistinctParts (in_order ps)
distinct [] h = tt
distinct (p ∷ ps) h = distinct-put p (in_order ps) (any-order p ps ∙ h.0) (distinct ps h.1)

pub triggers-in_order : TriggersAreInOrder
unfolding triggers_of
triggers-in_order waited c = (in_order (showing_parts waited (atoms_of (edge_part c))), showing, refl)
  where
    showing : AreShowing waited c (in_order (showing_parts waited (atoms_of (edge_part c))))
    showing = record {
      sorted = sorted (showing_parts waited (atoms_of (edge_part c)));
      once = distinct (showing_parts waited (atoms_of (edge_part c))) (showing_distinct waited (atoms_of (edge_part c)) (atoms_distinct (edge_part c)));
      members = λ p. any-order p (showing_parts waited (atoms_of (edge_part c))) ∙ showing_any waited (atoms_of (edge_part c)) p;
    }
