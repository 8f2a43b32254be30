-- A run from a world on, and from the worlds after it.
use Rattle.std.proofs.Common.{◌≡◌, ℕ, zero, suc, ◌+◌, List, [], length, refl, ap, sym, subst, Option, Some, None, arith}
use Rattle.std.specs.Option.{option_and_then}
use Rattle.std.proofs.lemmas.Option.{none-some, same_Some}
use Rattle.lh_time.specs.declared.Instant.{Instant}
use Rattle.lh_unit.specs.Contents.{ItemText}
use Rattle.lh_unit.specs.Design.{Design}
use Rattle.lh_unit.specs.World.{World, acts_at, world_after, next_world, next_instant}
use Rattle.lh_unit.specs.Trace.{Frame, Run, least_runaway, before, goes_on, at_bound, run_at, run_from}
use Rattle.lh_unit.specs.Frames.{world_unless, world_past, world_later}
use Rattle.lh_trace_laws.specs.Wishes.{ReachedFrom, at_start, after_frame}
use Rattle.lh_trace_laws.specs.Frames.{then, RunGoesOn, RunHasEnded, LaterIsReached}

not_none : {A : Type 0} (v : A) → Some v ≡ None → ⊥
not_none v e = none-some v (sym e)

module _ (bound : ℕ) (items : List ItemText) (d : Design) where
  -- the run up to k frames has as many, and the longer one is it and then what follows
  abbrev GoesOn : (k n : ℕ) → World → World → Type 0
  GoesOn k n w v = (length (run_from bound items d k w).frames ≡ k) × (run_from bound items d (k + n) w ≡ then (run_from bound items d k w).frames (run_from bound items d n v))

  no_frames : (o : Option Instant) → (at_bound o).frames ≡ []
  no_frames None = refl
  no_frames (Some t) = refl

  first_goes_on : (n : ℕ) (w v : World) → w ≡ v → GoesOn zero n w v
  first_goes_on n w v e =
      let none : (run_from bound items d zero w).frames ≡ [] = no_frames (next_instant w) in
      let sum : zero + n ≡ n = omega arith in
      (ap length none, rw (sum, none) (ap (run_from bound items d n) e))

  module _ (k n : ℕ) (v : World) where
    -- what is said of a run up to k frames and of the longer one
    abbrev Joined : (count : ℕ) → Run → Run → Type 0
    Joined count a b = (length a.frames ≡ count) × (b ≡ then a.frames (run_from bound items d n v))

    joined_after : (f : Frame) (q : Option ℕ) (u : World) → option_and_then (world_later bound items d k) (world_unless q u) ≡ Some v
        → (world_later bound items d k u ≡ Some v → GoesOn k n u v) → Joined (suc k) (goes_on f q (run_from bound items d k u)) (goes_on f q (run_from bound items d (k + n) u))
    joined_after f (Some i) u h ih = absurd (none-some v h)
    joined_after f None u h ih = let j = ih h in (let one : length (run_from bound items d k u).frames ≡ k = j.0 in omega (arith, one), ap (before f) j.1)

    joined_at : (w : World) (o : Option Instant) → option_and_then (world_later bound items d k) (option_and_then (world_past bound items d w) o) ≡ Some v
        → ((u : World) → world_later bound items d k u ≡ Some v → GoesOn k n u v)
        → Joined (suc k) (run_at bound items d w o (run_from bound items d k)) (run_at bound items d w o (run_from bound items d (k + n)))
    joined_at w None h ih = absurd (none-some v h)
    joined_at w (Some t) h ih = joined_after _ (least_runaway 0 (acts_at bound items d w t)) (world_after w t (acts_at bound items d w t)) h (ih (world_after w t (acts_at bound items d w t)))

  goes_on_from : (k n : ℕ) (w v : World) → world_later bound items d k w ≡ Some v → GoesOn k n w v
  goes_on_from zero n w v h = first_goes_on n w v (same_Some w v h)
  goes_on_from (suc k) n w v h =
      let sum : suc k + n ≡ suc (k + n) = omega arith in
      rw sum (joined_at k n v w (next_instant w) h (λ u e. goes_on_from k n u v e))

  module _ (k n : ℕ) where
    ended_after : (f : Frame) (q : Option ℕ) (u : World) → option_and_then (world_later bound items d k) (world_unless q u) ≡ None
        → (world_later bound items d k u ≡ None → run_from bound items d (k + n) u ≡ run_from bound items d k u)
        → goes_on f q (run_from bound items d (k + n) u) ≡ goes_on f q (run_from bound items d k u)
    ended_after f (Some i) u h ih = refl
    ended_after f None u h ih = ap (before f) (ih h)

    ended_at : (w : World) (o : Option Instant) → option_and_then (world_later bound items d k) (option_and_then (world_past bound items d w) o) ≡ None
        → ((u : World) → world_later bound items d k u ≡ None → run_from bound items d (k + n) u ≡ run_from bound items d k u)
        → run_at bound items d w o (run_from bound items d (k + n)) ≡ run_at bound items d w o (run_from bound items d k)
    ended_at w None h ih = refl
    ended_at w (Some t) h ih = ended_after _ (least_runaway 0 (acts_at bound items d w t)) (world_after w t (acts_at bound items d w t)) h (ih (world_after w t (acts_at bound items d w t)))

  has_ended : (k n : ℕ) (w : World) → world_later bound items d k w ≡ None → run_from bound items d (k + n) w ≡ run_from bound items d k w
  has_ended zero n w h = absurd (not_none w h)
  has_ended (suc k) n w h =
      let sum : suc k + n ≡ suc (k + n) = omega arith in
      rw sum (ended_at k n w (next_instant w) h (λ u e. has_ended k n u e))

  -- worlds that a later world comes to
  reached_later : (w u v : World) → ReachedFrom bound items d w u → ReachedFrom bound items d u v → ReachedFrom bound items d w v
  reached_later w u _ r at_start = r
  reached_later w u _ r (after_frame x t s n) = after_frame x t (reached_later w u x r s) n

  module _ (k : ℕ) (w v : World) (t : Instant) (n : next_instant w ≡ Some t) where
    reached_after : (q : Option ℕ) → option_and_then (world_later bound items d k) (world_unless q (next_world bound items d w t)) ≡ Some v
        → ((u : World) → world_later bound items d k u ≡ Some v → ReachedFrom bound items d u v) → ReachedFrom bound items d w v
    reached_after (Some i) h ih = absurd (none-some v h)
    reached_after None h ih = reached_later w (next_world bound items d w t) v (after_frame w t at_start n) (ih (next_world bound items d w t) h)

  reached : (k : ℕ) (w v : World) → world_later bound items d k w ≡ Some v → ReachedFrom bound items d w v
  reached zero w v h = subst (ReachedFrom bound items d w) (same_Some w v h) at_start
  reached (suc k) w v h = at (next_instant w) refl h (λ u e. reached k u v e)
    where
      at : (o : Option Instant) → next_instant w ≡ o → option_and_then (world_later bound items d k) (option_and_then (world_past bound items d w) o) ≡ Some v
          → ((u : World) → world_later bound items d k u ≡ Some v → ReachedFrom bound items d u v) → ReachedFrom bound items d w v
      at None n g ih = absurd (none-some v g)
      at (Some t) n g ih = reached_after k w v t n (least_runaway 0 (acts_at bound items d w t)) g ih

pub run_goes_on : RunGoesOn
run_goes_on bound items d k n w v h = goes_on_from bound items d k n w v h

pub run_has_ended : RunHasEnded
run_has_ended bound items d k n w h = has_ended bound items d k n w h

pub later_is_reached : LaterIsReached
later_is_reached bound items d k w v h = reached bound items d k w v h
