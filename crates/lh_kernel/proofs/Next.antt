-- The next instant of a simulation.
use Rattle.std.proofs.Common.{◌≡◌, ℕ, zero, suc, List, [], ◌∷◌, Bool, true, false, not, if◌then◌else◌, arith, Option, Some, None, IfSome, refl, ap, sym, ◌∙◌, subst, inl, inr}
use Rattle.std.specs.Option.{is_some}
use Rattle.std.specs.declared.cmp.Ordering.TheVariants.{Less}
use Rattle.std.specs.Ordering.{nat_cmp, ordering_then, is_le}
use Rattle.lh_time.specs.declared.Instant.{Instant}
use Rattle.lh_time.specs.Order.{instant_lt, instant_le, IsLaterIfAny}
use Rattle.lh_time.proofs.OrderLemmas.{instant_le-lt}
use Rattle.lh_time.specs.Due.{instant}
use Rattle.lh_types.specs.History.{claims, sooner, soonest_due}
use Rattle.lh_history_laws.proofs.Instants.{le_trans, not_lt_le}
use Rattle.lh_unit.specs.World.{World, soonest_wake, instant_after, next_instant}
use Rattle.lh_unit.specs.Within.{Each}
use Rattle.lh_queue.specs.Queued.{QueuedWish, OneDueAt, NoneDueBefore, IsLeastDue}
use Rattle.lh_queue.specs.Holds.{HoldsFor, IsAfter, IsSoonestDue}
use Rattle.lh_queue.proofs.KeptWishes.{sooner_due}
use Rattle.lh_kernel_wakes.specs.Waking.{IsNoted, IsSoonest}
use Rattle.lh_kernel_states.specs.declared.state.InstState.{InstState}
use Rattle.lh_kernel_states.specs.States.{wake_kept}
use Rattle.lh_kernel_states.proofs.InstanceStates.{wakes-alike}
use Rattle.lh_kernel.specs.States.{WakesItself}
use Rattle.lh_kernel.specs.Kept.{IsKept, IsWaiting, WakesAfter}
use Rattle.lh_kernel.specs.Simulation.{StandsFor, simulation_of}
use Rattle.lh_kernel.specs.Phases.{ComesNext}
use Rattle.lh_kernel.specs.declared.machine.SimState.{SimState}
use Rattle.lh_kernel.proofs.Soonest.{soonest_noted, soonest_alike}

-- what is due comes after the last frame, where all that is held waits
due_after : (l t : Instant) (held : List QueuedWish) → Each (IsWaiting (Some l)) held → OneDueAt t held → instant_lt l t ≡ true
due_after l t [] w h = absurd h
due_after l t (x ∷ xs) w (inl e) = subst (λ (u : Instant). instant_lt l u ≡ true) e w.0.1
due_after l t (x ∷ xs) w (inr h) = due_after l t xs w.1 h

-- and so does who wakes by itself
wake_after : (l u : Instant) (ss : List InstState) (k : ℕ) → Each (WakesAfter (Some l)) ss → WakesItself ss u k → instant_lt l u ≡ true
wake_after l u [] k w h = absurd (nothing h.stands)
  where
    nothing : None ≡ Some h.state → ⊥
    nothing e = cc
wake_after l u (s ∷ ss) zero w h = subst (λ (o : Option Instant). IsLaterIfAny l o) (ap wake_kept (same h.stands) ∙ h.wakes) w.0
  where
    same : Some s ≡ Some h.state → s ≡ h.state
    same e = cc
wake_after l u (s ∷ ss) (suc k) w h = wake_after l u ss k w.1 (record { state = h.state; stands = h.stands; wakes = h.wakes })

-- The sooner of the least due instant and the soonest wake is the next instant of each world that the simulation stands for.
pub next_is : (x : SimState) (l : Instant) (due wake : Option Instant) → IsKept x → x.last ≡ Some l → IsSoonestDue x.queue.held due → IsSoonest x.noted.wakes wake →
    (w : World) → StandsFor (simulation_of x false) w → sooner due wake ≡ next_instant w
next_is x l due wake k e d s w h =
    let last : w.last ≡ Some l = h.last ∙ e in
    let holds : HoldsFor x.queue.held (claims w.history) (Some l) = subst (λ (o : Option Instant). HoldsFor x.queue.held (claims w.history) o) last h.wishes in
    let p : due ≡ soonest_due l (claims w.history) = d (claims w.history) l holds k.names in
    let later : Each (WakesAfter (Some l)) x.states.items = subst (λ (o : Option Instant). Each (WakesAfter o) x.states.items) e k.wakes in
    let q : wake ≡ soonest_wake l w.states =
    soonest_noted x.noted.wakes x.states.items wake k.noted.wakes s ∙ sym (soonest_alike wakes-alike x.«module».now x.design.instances.items x.states.items w.states l h.states later) in
    ap (λ (o : Option Instant). sooner o wake) p ∙ ap (sooner (soonest_due l (claims w.history))) q ∙ sym (ap (λ (o : Option Instant). instant_after o w.history w.states) last)

-- nothing is to come before it
pub next_comes : (x : SimState) (l : Instant) (due wake : Option Instant) → IsKept x → x.last ≡ Some l → IsLeastDue x.queue.held due →
    IsSoonest x.noted.wakes wake → IfSome (sooner due wake) (ComesNext x)
next_comes x l due wake k e = by due wake
  where
    waits : Each (IsWaiting (Some l)) x.queue.held
    waits = subst (λ (o : Option Instant). Each (IsWaiting o) x.queue.held) e k.waiting

    later : Each (WakesAfter (Some l)) x.states.items
    later = subst (λ (o : Option Instant). Each (WakesAfter o) x.states.items) e k.wakes

    from : (t : Instant) → instant_lt l t ≡ true → NoneDueBefore t x.queue.held → ((u : Instant) (k : ℕ) → IsNoted x.noted.wakes u k → instant_le t u ≡ true) → ComesNext x t
    from t a d w = record { after = subst (λ (o : Option Instant). IsAfter o t) (sym e) a; due = d; wakes = w }

    wakes_at : (u : Instant) → (m : ℕ) × IsNoted x.noted.wakes u m → instant_lt l u ≡ true
    wakes_at u n = wake_after l u x.states.items n.0 later ((k.noted.wakes u n.0).0 n.1)

    both : (t u : Instant) (b : Bool) → instant_lt u t ≡ b → IsLeastDue x.queue.held (Some t) → IsSoonest x.noted.wakes (Some u) → ComesNext x (if b then u else t)
    both t u true b d s = from u (wakes_at u s.0) (sooner_due u t x.queue.held (instant_le-lt u t b) d.1) s.1
    both t u false b d s = from t (due_after l t x.queue.held waits d.0) d.1 (λ v m n. le_trans t u v (not_lt_le t u b) (s.1 v m n))

    by : (due wake : Option Instant) → IsLeastDue x.queue.held due → IsSoonest x.noted.wakes wake → IfSome (sooner due wake) (ComesNext x)
    by None None d s = tt
    by None (Some u) d s = from u (wakes_at u s.0) (subst (NoneDueBefore u) (sym d) tt) s.1
    by (Some t) None d s = from t (due_after l t x.queue.held waits d.0) d.1 (λ v m n. absurd (s v m n))
    by (Some t) (Some u) d s = both t u (instant_lt u t) refl d s

zero_less : (n : ℕ) → nat_cmp 0 (suc n) ≡ Less
zero_less n = grind arith

zero_le : (a b c : ℕ) → is_le (ordering_then (nat_cmp 0 a) (ordering_then (nat_cmp 0 b) (nat_cmp 0 c))) ≡ true
zero_le (suc a) b c = rw (zero_less a) refl
zero_le zero (suc b) c = rw (zero_less b) refl
zero_le zero zero (suc c) = rw (zero_less c) refl
zero_le zero zero zero = refl

first_le : (u : Instant) → instant_le (instant 0 0 0) u ≡ true
first_le u = zero_le u.fs u.delta u.eps

-- what a test of an option says
pub none_by : {A : Type 0} (o : Option A) (b : Bool) → is_some o ≡ not b → b ≡ true → o ≡ None
none_by None b e h = refl
none_by (Some x) b e h = absurd (clash (e ∙ ap not h))
  where
    clash : true ≡ false → ⊥
    clash z = cc

pub some_by : {A : Type 0} (o : Option A) (b : Bool) → is_some o ≡ not b → b ≡ false → (x : A) × (o ≡ Some x)
some_by None b e h = absurd (clash (e ∙ ap not h))
  where
    clash : false ≡ true → ⊥
    clash z = cc
some_by (Some x) b e h = (x, refl)

-- the first instant is no later than any
pub first_comes : (x : SimState) → x.last ≡ None → ComesNext x (instant 0 0 0)
first_comes x e = record { after = subst (λ (o : Option Instant). IsAfter o (instant 0 0 0)) (sym e) tt; due = none_due x.queue.held; wakes = λ u k n. first_le u }
  where
    none_due : (held : List QueuedWish) → NoneDueBefore (instant 0 0 0) held
    none_due [] = tt
    none_due (y ∷ ys) = (first_le y.wish.due, none_due ys)
