-- The soonest instant at which an instance wakes by itself, by what is noted and by the states.
use Rattle.std.proofs.Common.{◌≡◌, ℕ, zero, suc, List, [], ◌∷◌, Bool, true, false, if◌then◌else◌, Option, Some, None, refl, ap, sym, ◌∙◌, subst, ◌⊎◌, inl, inr, ⊎_elim}
use Rattle.std.specs.Prelude.{◌↔◌}
use Rattle.std.specs.Ordering.{is_gt}
use Rattle.lh_time.specs.declared.Instant.{Instant}
use Rattle.lh_time.specs.Order.{instant_cmp, instant_lt, instant_le, IsLaterIfAny}
use Rattle.lh_time.proofs.OrderLemmas.{instant_cmp_total, instant_le-lt}
use Rattle.lh_types.specs.History.{sooner, if_later}
use Rattle.lh_history_laws.proofs.Orders.{le_not_gt, level}
use Rattle.lh_history_laws.proofs.Instants.{instant_one, le_self, le_trans, not_lt_le}
use Rattle.lh_unit.specs.Arena.{Arena}
use Rattle.lh_unit.specs.World.{State, wake_of, soonest_wake}
use Rattle.lh_unit.specs.Within.{Each}
use Rattle.lh_eval.specs.declared.instance.Instance.{Instance}
use Rattle.lh_kernel_wakes.specs.declared.wakes.Wake.{Wake}
use Rattle.lh_kernel_wakes.specs.Waking.{IsNoted, IsSoonest}
use Rattle.lh_kernel_states.specs.declared.state.InstState.{InstState}
use Rattle.lh_kernel_states.specs.States.{wake_kept}
use Rattle.lh_kernel_states.specs.Laws.{WakesAlike}
use Rattle.lh_kernel.specs.States.{StatesStand, WakesItself}
use Rattle.lh_kernel.specs.Kept.{WakesAfter}

-- the least of the instants that have a property
abbrev pub IsLeast : (Instant → Type 0) → Option Instant → Type 0
IsLeast P None = (u : Instant) → P u → ⊥
IsLeast P (Some t) = P t × ((u : Instant) → P u → instant_le t u ≡ true)

-- of two instants, neither of which is later, each is the other
pub le_one : (t u : Instant) → instant_le t u ≡ true → instant_le u t ≡ true → t ≡ u
le_one t u h k =
    instant_one t u (level (instant_cmp t u) (le_not_gt (instant_cmp t u) h) (subst (λ o. is_gt o ≡ false) (instant_cmp_total.antisymm u t) (le_not_gt (instant_cmp u t) k)))

-- there is one least
pub one_least : (P : Instant → Type 0) (x y : Option Instant) → IsLeast P x → IsLeast P y → x ≡ y
one_least P None None h k = refl
one_least P None (Some u) h k = absurd (h u k.0)
one_least P (Some t) None h k = absurd (k t h.0)
one_least P (Some t) (Some u) h k = ap Some (le_one t u (h.1 u k.0) (k.1 t h.0))

-- the least of those that have one of two properties
least_or : (P Q : Instant → Type 0) (a b : Option Instant) → IsLeast P a → IsLeast Q b → IsLeast (λ u. P u ⊎ Q u) (sooner a b)
least_or P Q None None p q = λ u e. ⊎_elim (p u) (q u) e
least_or P Q None (Some b) p q = (inr q.0, λ v e. ⊎_elim (λ x. absurd (p v x)) (q.1 v) e)
least_or P Q (Some a) None p q = (inl p.0, λ v e. ⊎_elim (p.1 v) (λ x. absurd (q v x)) e)
least_or P Q (Some a) (Some b) p q = at (instant_lt b a) refl
  where
    at : (k : Bool) → instant_lt b a ≡ k → IsLeast (λ u. P u ⊎ Q u) (Some (if k then b else a))
    at true k = (inr q.0, λ v e. ⊎_elim (λ x. le_trans b a v (instant_le-lt b a k) (p.1 v x)) (q.1 v) e)
    at false k = (inl p.0, λ v e. ⊎_elim (p.1 v) (λ x. le_trans a b v (not_lt_le a b k) (q.1 v x)) e)

-- the soonest instant at which one of these wakes by itself
abbrev pub soonest_kept : List InstState → Option Instant
soonest_kept [] = None
soonest_kept (s ∷ ss) = sooner (wake_kept s) (soonest_kept ss)

-- one of these wakes by itself at the instant
abbrev pub OneWakes : List InstState → Instant → Type 0
OneWakes [] u = ⊥
OneWakes (s ∷ ss) u = (wake_kept s ≡ Some u) ⊎ OneWakes ss u

least_own : (o : Option Instant) → IsLeast (λ u. o ≡ Some u) o
least_own None = λ u e. none u e
  where
    none : (u : Instant) → None ≡ Some u → ⊥
    none u e = cc
least_own (Some t) = (refl, λ v e. ap (instant_le t) (sym (same v e)) ∙ le_self t)
  where
    same : (u : Instant) → Some t ≡ Some u → t ≡ u
    same u e = cc

pub least_kept : (ss : List InstState) → IsLeast (OneWakes ss) (soonest_kept ss)
least_kept [] = λ u e. e
least_kept (s ∷ ss) = least_or (λ u. wake_kept s ≡ Some u) (OneWakes ss) (wake_kept s) (soonest_kept ss) (least_own (wake_kept s)) (least_kept ss)

pub one_of : (ss : List InstState) (u : Instant) (k : ℕ) → WakesItself ss u k → OneWakes ss u
one_of [] u k h = absurd (nothing h.stands)
  where
    nothing : None ≡ Some h.state → ⊥
    nothing e = cc
one_of (s ∷ ss) u zero h = inl (ap wake_kept (same h.stands) ∙ h.wakes)
  where
    same : Some s ≡ Some h.state → s ≡ h.state
    same e = cc
one_of (s ∷ ss) u (suc k) h = inr (one_of ss u k (record { state = h.state; stands = h.stands; wakes = h.wakes }))

pub of_one : (ss : List InstState) (u : Instant) → OneWakes ss u → (k : ℕ) × WakesItself ss u k
of_one [] u h = absurd h
of_one (s ∷ ss) u (inl e) = (0, record { state = s; stands = refl; wakes = e })
of_one (s ∷ ss) u (inr h) = let r = of_one ss u h in (suc r.0, record { state = r.1.state; stands = r.1.stands; wakes = r.1.wakes })

-- the soonest that is noted is the soonest of the states
pub soonest_noted : (wakes : List Wake) (ss : List InstState) (o : Option Instant) → ((t : Instant) (k : ℕ) → IsNoted wakes t k ↔ WakesItself ss t k) → IsSoonest wakes o → o ≡ soonest_kept ss
soonest_noted wakes ss None exact h = one_least (OneWakes ss) None (soonest_kept ss) (λ u e. let r = of_one ss u e in h u r.0 ((exact u r.0).1 r.1)) (least_kept ss)
soonest_noted wakes ss (Some t) exact h =
    one_least (OneWakes ss) (Some t) (soonest_kept ss)
    (one_of ss t h.0.0 ((exact t h.0.0).0 h.0.1), λ u e. let r = of_one ss u e in h.1 u r.0 ((exact u r.0).1 r.1))
    (least_kept ss)

later_own : (t : Instant) (o : Option Instant) → IsLaterIfAny t o → if_later t o ≡ o
later_own t None h = refl
later_own t (Some u) h = rw h refl

-- the soonest of the states is the soonest wake time of those that they stand for
pub soonest_alike : WakesAlike → (a : Arena) (is : List Instance) (ss : List InstState) (ps : List State) (t : Instant) → StatesStand a is ss ps → Each (WakesAfter (Some t)) ss →
    soonest_wake t ps ≡ soonest_kept ss
soonest_alike law a [] [] [] t h l = refl
soonest_alike law a [] [] (p ∷ ps) t h l = absurd h
soonest_alike law a [] (s ∷ ss) ps t h l = absurd h
soonest_alike law a (i ∷ is) [] ps t h l = absurd h
soonest_alike law a (i ∷ is) (s ∷ ss) [] t h l = absurd h
soonest_alike law a (i ∷ is) (s ∷ ss) (p ∷ ps) t h l =
    let e : if_later t (wake_of p) ≡ wake_kept s = ap (if_later t) (sym (law a i s p h.0)) ∙ later_own t (wake_kept s) l.0 in
    ap (λ o. sooner o (soonest_wake t ps)) e ∙ ap (sooner (wake_kept s)) (soonest_alike law a is ss ps t h.1 l.1)
