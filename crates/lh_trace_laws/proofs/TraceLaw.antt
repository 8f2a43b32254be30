-- Prefixes of a trace, and modules of one trace.
use Rattle.std.proofs.Common.{ℕ, zero, suc, ◌+◌, ◌≤◌, List, [], ◌∷◌, length, refl, ap, sym, ◌∙◌, Option, Some, None, inl, inr, arith, add-one}
use Rattle.lh_time.specs.declared.Instant.{Instant}
use Rattle.lh_types.specs.History.{bits_at}
use Rattle.lh_unit.specs.Contents.{ItemText}
use Rattle.lh_unit.specs.Design.{Design, Elaborated, refused, built, elab}
use Rattle.lh_unit.specs.World.{World, acts_at, first_world, world_after, next_instant}
use Rattle.lh_unit.specs.Trace.{Frame, steps, Run, least_runaway, frame_of, before, goes_on, at_bound, run_at, run_from, trace_by, trace_within}
use Rattle.lh_trace_laws.specs.Frames.{HasOneMoreFrame, TraceHasOneMore, TraceIsPrefix, frame_count, TraceIsWithin, BitsStay, EqualSameTrace, SameTraceTurns, SameTraceLinks}
use Rattle.lh_trace_laws.proofs.Worlds.{bits_stay}

one_more_before : (f : Frame) (o : Option ℕ) (a b : Run) → HasOneMoreFrame a b → HasOneMoreFrame (goes_on f o a) (goes_on f o b)
one_more_before f (Some i) a b h = inl refl
one_more_before f None a b (inl e) = inl (ap (before f) e)
one_more_before f None a b (inr h) = inr (h.0, (h.1.0, ap (λ fs. f ∷ fs) h.1.1))

one_more_first : (f : Frame) (o : Option ℕ) (p : Option Instant) → HasOneMoreFrame (record { frames = []; end = steps }) (goes_on f o (at_bound p))
one_more_first f (Some i) p = inr (refl, (f, refl))
one_more_first f None None = inr (refl, (f, refl))
one_more_first f None (Some t) = inr (refl, (f, refl))

module _ (bound : ℕ) (items : List ItemText) (d : Design) where
  one_more_at : (w : World) (o : Option Instant) (more more' : World → Run) → ((v : World) → HasOneMoreFrame (more v) (more' v))
      → HasOneMoreFrame (run_at bound items d w o more) (run_at bound items d w o more')
  one_more_at w None more more' h = inl refl
  one_more_at w (Some t) more more' h = one_more_before _ (least_runaway 0 (acts_at bound items d w t)) _ _ (h (world_after w t (acts_at bound items d w t)))

  first_at : (w : World) (o : Option Instant) → HasOneMoreFrame (at_bound o) (run_at bound items d w o (run_from bound items d zero))
  first_at w None = inl refl
  first_at w (Some t) = one_more_first _ (least_runaway 0 (acts_at bound items d w t)) (next_instant (world_after w t (acts_at bound items d w t)))

  one_more : (n : ℕ) (w : World) → HasOneMoreFrame (run_from bound items d n w) (run_from bound items d (suc n) w)
  one_more zero w = first_at w (next_instant w)
  one_more (suc n) w = one_more_at w (next_instant w) (run_from bound items d n) (run_from bound items d (suc n)) (one_more n)

  within_at : (n : ℕ) (w : World) (o : Option Instant) (more : World → Run) → ((v : World) → length (more v).frames ≤ n) → length (run_at bound items d w o more).frames ≤ suc n
  within_at n w None more h = omega arith
  within_at n w (Some t) more h = at (least_runaway 0 (acts_at bound items d w t)) (h (world_after w t (acts_at bound items d w t)))
    where
      at : (o : Option ℕ) → length (more (world_after w t (acts_at bound items d w t))).frames ≤ n
          → length (goes_on (frame_of d.signals t (bits_at w.history w.init t) (acts_at bound items d w t)) o (more (world_after w t (acts_at bound items d w t)))).frames ≤ suc n
      at (Some i) k = omega arith
      at None k = omega (arith, k)

  within_bound : (o : Option Instant) → length (at_bound o).frames ≤ 0
  within_bound None = omega arith
  within_bound (Some t) = omega arith

  within : (n : ℕ) (w : World) → length (run_from bound items d n w).frames ≤ n
  within zero w = within_bound (next_instant w)
  within (suc n) w = within_at n w (next_instant w) (run_from bound items d n) (within n)

pub trace_is_prefix : TraceIsPrefix
trace_is_prefix bound items top n = at (elab items top)
  where
    at : (e : Elaborated) → TraceHasOneMore (trace_by bound items n e) (trace_by bound items (n + 1) e)
    at (refused r) = refl
    at (built d) = (refl, refl, rw add-one (one_more bound items d n (first_world items d)))

pub trace_is_within : TraceIsWithin
trace_is_within bound items top n = at (elab items top)
  where
    at : (e : Elaborated) → frame_count (trace_by bound items n e) ≤ n
    at (refused r) = omega arith
    at (built d) = within bound items d n (first_world items d)

pub bits_stay_law : BitsStay
bits_stay_law bound items d w t = bits_stay bound items d w t

pub equal_same_trace : EqualSameTrace
equal_same_trace bound m m' e top n = ap (λ k. trace_within bound k top n) e

pub same_trace_turns : SameTraceTurns
same_trace_turns bound m m' h top n = sym (h top n)

pub same_trace_links : SameTraceLinks
same_trace_links bound a b c h k top n = h top n ∙ k top n
