-- The next instant is the least that comes.
use Rattle.std.proofs.Common.{◌≡◌, List, [], ◌∷◌, Bool, true, false, if◌then◌else◌, refl, ap, sym, ◌∙◌, Option, Some, None, ◌⊎◌, inl, inr, ⊎_elim}
use Rattle.std.proofs.lemmas.Bool.{both_ways}
use Rattle.lh_time.specs.declared.Instant.{Instant}
use Rattle.lh_time.specs.Order.{instant_lt, instant_le}
use Rattle.lh_time.proofs.OrderLemmas.{instant_le-lt}
use Rattle.lh_types.specs.History.{Made, Claim, claims, sooner, if_later, soonest_due}
use Rattle.lh_history_laws.proofs.Instants.{le_self, le_trans, not_lt_le}
use Rattle.lh_unit.specs.World.{State, wake_of, IsDueIn, WakesIn, IsNext, soonest_wake}
use Rattle.lh_trace_laws.specs.Frames.{NextComputes}

module _ (t : Instant) where
  -- the least of the instants after t that have a property
  abbrev IsLeast : (Instant → Type 0) → Option Instant → Type 0
  IsLeast P None = (u : Instant) → instant_lt t u ≡ true → P u → ⊥
  IsLeast P (Some u) = (instant_lt t u ≡ true) × P u × ((v : Instant) → instant_lt t v ≡ true → P v → instant_le u v ≡ true)

  least_or : (P Q : Instant → Type 0) (a b : Option Instant) → IsLeast P a → IsLeast Q b → IsLeast (λ u. P u ⊎ Q u) (sooner a b)
  least_or P Q None None p q = λ u h e. ⊎_elim (p u h) (q u h) e
  least_or P Q None (Some b) p q = (q.0, inr q.1, λ v h e. ⊎_elim (λ x. absurd (p v h x)) (q.2 v h) e)
  least_or P Q (Some a) None p q = (p.0, inl p.1, λ v h e. ⊎_elim (p.2 v h) (λ x. absurd (q v h x)) e)
  least_or P Q (Some a) (Some b) p q = at (instant_lt b a) refl
    where
      at : (k : Bool) → instant_lt b a ≡ k → IsLeast (λ u. P u ⊎ Q u) (Some (if k then b else a))
      at true k = (q.0, inr q.1, λ v h e. ⊎_elim (λ x. le_trans b a v (instant_le-lt b a k) (p.2 v h x)) (q.2 v h) e)
      at false k = (p.0, inl p.1, λ v h e. ⊎_elim (p.2 v h) (λ x. le_trans a b v (not_lt_le a b k) (q.2 v h x)) e)

  least_one : (x : Instant) → IsLeast (λ u. x ≡ u) (if_later t (Some x))
  least_one x = at (instant_lt t x) refl
    where
      at : (k : Bool) → instant_lt t x ≡ k → IsLeast (λ u. x ≡ u) (if k then Some x else None)
      at true k = (k, refl, λ v h e. ap (instant_le x) (sym e) ∙ le_self x)
      at false k = λ u h e. both_ways (instant_lt t x) k (ap (instant_lt t) e ∙ h)

  least_due : (cs : List Claim) → IsLeast (IsDueIn cs) (soonest_due t cs)
  least_due [] = λ u h e. absurd e
  least_due (c ∷ more) = least_or (λ u. c.due ≡ u) (IsDueIn more) (if_later t (Some c.due)) (soonest_due t more) (least_one c.due) (least_due more)

  wake_one : (o : Option Instant) → IsLeast (λ u. o ≡ Some u) (if_later t o)
  wake_one None = λ u h e. none u e
    where
      none : (u : Instant) → None ≡ Some u → ⊥
      none u e = cc
  wake_one (Some x) = at (instant_lt t x) refl
    where
      same : (u : Instant) → Some x ≡ Some u → x ≡ u
      same u e = cc

      at : (k : Bool) → instant_lt t x ≡ k → IsLeast (λ u. Some x ≡ Some u) (if k then Some x else None)
      at true k = (k, refl, λ v h e. ap (instant_le x) (sym (same v e)) ∙ le_self x)
      at false k = λ u h e. both_ways (instant_lt t x) k (ap (instant_lt t) (same u e) ∙ h)

  least_wake : (ss : List State) → IsLeast (WakesIn ss) (soonest_wake t ss)
  least_wake [] = λ u h e. absurd e
  least_wake (s ∷ more) = least_or (λ u. wake_of s ≡ Some u) (WakesIn more) (if_later t (wake_of s)) (soonest_wake t more) (wake_one (wake_of s)) (least_wake more)

  is_next : (h : List Made) (ss : List State) (o : Option Instant) → IsLeast (λ u. IsDueIn (claims h) u ⊎ WakesIn ss u) o → IsNext t h ss o
  is_next h ss None l = λ u c. l u c.0 c.1
  is_next h ss (Some u) l = ((l.0, l.1), λ v c. l.2 v c.0 c.1)

pub next_computes : NextComputes
next_computes t h ss = is_next t h ss _ (least_or t (IsDueIn (claims h)) (WakesIn ss) (soonest_due t (claims h)) (soonest_wake t ss) (least_due t (claims h)) (least_wake t ss))
