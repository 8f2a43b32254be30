-- A step of a simulation by the frame of its machine.
use Rattle.std.proofs.Common.{◌≡◌, ℕ, List, Bool, true, false, Option, Some, None, Result, Err, refl, ap, sym, ◌∙◌, subst}
use Rattle.lh_time.specs.declared.Instant.{Instant}
use Rattle.lh_types.specs.History.{bits_at}
use Rattle.lh_types.specs.declared.frame.Frame.{Frame}
use Rattle.lh_types.specs.declared.memory.NoMemory.{NoMemory}
use Rattle.lh_unit.specs.World.{World, next_instant}
use Rattle.lh_kernel.specs.declared.machine.SimState.{SimState}
use Rattle.lh_kernel.specs.declared.sim.SimStep.{SimStep}
use Rattle.lh_kernel.specs.Simulation.{Simulation, StandsFor, simulation_of}
use Rattle.lh_kernel.specs.Stepped.{IsNextFrame, HasEnded, world_then, woken_next, Tallied}
use Rattle.lh_kernel.specs.Phases.{IsFrame, woken_in, RisesWithin}

-- the simulation before the step, which goes on
as_seen : (old : SimState) (ended : Bool) (s : Simulation) → simulation_of old ended ≡ s → ended ≡ false → simulation_of old false ≡ s
as_seen old ended s v g = ap (simulation_of old) (sym g) ∙ v

-- the next instant of each world that a simulation stands for
abbrev pub ComesIn : SimState → Instant → Type 0
ComesIn old t = (w : World) → StandsFor (simulation_of old false) w → Some t ≡ next_instant w

pub steps_frame : (old new : SimState) (ended : Bool) (s : Simulation) (t : Instant) (f : Frame) (r : Option ℕ) → simulation_of old ended ≡ s →
    ended ≡ false → ComesIn old t → IsFrame old new t f r → r ≡ None →
    (w : World) → StandsFor s w → IsNextFrame s w f None × StandsFor (simulation_of new ended) (world_then s w f.at)
steps_frame old new ended s t f r v g next fr n =
    subst (λ (z : Simulation). (w : World) → StandsFor z w → IsNextFrame z w f None × StandsFor (simulation_of new ended) (world_then z w f.at)) (as_seen old ended s v g) base
  where
    base : (w : World) → StandsFor (simulation_of old false) w → IsNextFrame (simulation_of old false) w f None × StandsFor (simulation_of new ended) (world_then (simulation_of old false) w f.at)
    base w h = (
      record { at = t; comes = sym (next w h); shows = fr.shows w h; ends = fr.ends w h ∙ n },
      subst (λ (b : Bool). StandsFor (simulation_of new b) (world_then (simulation_of old false) w f.at)) (sym g)
          (subst (λ (u : Instant). StandsFor (simulation_of new false) (world_then (simulation_of old false) w u)) (sym fr.at) (fr.goes_on n w h)),
    )

pub steps_runaway : (old new : SimState) (ended : Bool) (s : Simulation) (t : Instant) (f : Frame) (r : Option ℕ) (i : ℕ) →
    simulation_of old ended ≡ s → ended ≡ false → ComesIn old t → IsFrame old new t f r → r ≡ Some i →
    (w : World) → StandsFor s w → IsNextFrame s w f (Some i) × HasEnded s (simulation_of new true) w f.at
steps_runaway old new ended s t f r i v g next fr n =
    subst (λ (z : Simulation). (w : World) → StandsFor z w → IsNextFrame z w f (Some i) × HasEnded z (simulation_of new true) w f.at) (as_seen old ended s v g) base
  where
    base : (w : World) → StandsFor (simulation_of old false) w → IsNextFrame (simulation_of old false) w f (Some i) × HasEnded (simulation_of old false) (simulation_of new true) w f.at
    base w h = (
      record { at = t; comes = sym (next w h); shows = fr.shows w h; ends = fr.ends w h ∙ n },
      record { ended = refl; bits = subst (λ (u : Instant). new.bits ≡ bits_at w.history w.init u) (sym fr.at) (fr.bits w h) },
    )

-- the tally rises as the definition has it
pub steps_tally : (old : SimState) (ended : Bool) (s : Simulation) (t : Instant) (P : List ℕ → Type 0) → simulation_of old ended ≡ s → ended ≡ false → ComesIn old t →
    ((w : World) → StandsFor (simulation_of old false) w → P (woken_in old w t)) → (w : World) → StandsFor s w → P (woken_next s w (next_instant w))
steps_tally old ended s t P v g next h =
    subst (λ (z : Simulation). (w : World) → StandsFor z w → P (woken_next z w (next_instant w))) (as_seen old ended s v g)
    (λ w k. subst (λ (o : Option Instant). P (woken_next (simulation_of old false) w o)) (next w k) (h w k))

pub steps_err : (s : Simulation) (w : World) (r : Result SimStep NoMemory) (e : NoMemory) (before after : ℕ) → r ≡ Err e → RisesWithin
    (woken_next s w (next_instant w)) before after → Tallied s w r before after
steps_err s w r e before after q h = subst (λ (x : Result SimStep NoMemory). Tallied s w x before after) (sym q) h

-- the next instant, and none where the run has ended
pub next_seen : (old : SimState) (ended : Bool) (s : Simulation) (o : Option Instant) → simulation_of old ended ≡ s → ended ≡ false →
    ((w : World) → StandsFor (simulation_of old false) w → o ≡ next_instant w) →
    (w : World) → StandsFor s w → o ≡ next_instant w
next_seen old ended s o v g h = subst (λ (z : Simulation). (w : World) → StandsFor z w → o ≡ next_instant w) (as_seen old ended s v g) h

-- a simulation that has ended stands for no world
pub ended_stands : (old : SimState) (ended : Bool) (s : Simulation) (w : World) → simulation_of old ended ≡ s → ended ≡ true → StandsFor s w → ⊥
ended_stands old ended s w v e h =
    let a : ended ≡ s.ended = ap (λ (z : Simulation). z.ended) v in
    let b : s.ended ≡ false = h.goes_on in
    cc

pub goes_on_still : (old : SimState) (ended : Bool) (s : Simulation) → simulation_of old ended ≡ s → ended ≡ false → s.ended ≡ true → ⊥
goes_on_still old ended s v g e =
    let a : ended ≡ s.ended = ap (λ (z : Simulation). z.ended) v in
    cc
