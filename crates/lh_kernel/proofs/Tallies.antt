-- How many activations a step makes, by the definition.
use Rattle.std.proofs.Common.{◌≡◌, ◌≤◌, ℕ, List, Bool, false, nat_le, length, Option, Some, None, arith, ◌∙◌, subst}
use Rattle.std.proofs.lemmas.List.Sums.{count_by-le-length}
use Rattle.lh_time.specs.declared.Instant.{Instant}
use Rattle.lh_types.specs.Raised.{raised}
use Rattle.lh_unit.specs.World.{World}
use Rattle.lh_unit.specs.Frames.{activated_count}
use Rattle.lh_queue.specs.Holds.{AreBitsAt}
use Rattle.lh_kernel.specs.Touched.{bits_then}
use Rattle.lh_kernel.specs.Kept.{IsKept}
use Rattle.lh_kernel.specs.Simulation.{StandsFor, simulation_of}
use Rattle.lh_kernel.specs.Phases.{ComesNext, awake_in, looked_at, woken_in, RisesWithin}
use Rattle.lh_kernel.specs.declared.machine.SimState.{SimState}
use Rattle.lh_kernel.proofs.FrameLaws.{awake_are_woken}

pub raised_none : (n : ℕ) → n ≡ raised n 0
raised_none n = omega arith

-- no activation was made
pub rises_none : (ks : List ℕ) (old new : ℕ) → new ≡ old → RisesWithin ks old new
rises_none ks old new e = (0, omega arith, e ∙ raised_none old)

-- no more are activated than wake
few_activated : (r : Option ℕ) (ks : List ℕ) → activated_count r ks ≤ length ks
few_activated None ks = omega arith
few_activated (Some i) ks = count_by-le-length (λ k. nat_le k i) ks

pub rises_activated : (r : Option ℕ) (ks : List ℕ) (old new : ℕ) → new ≡ raised old (activated_count r ks) → RisesWithin ks old new
rises_activated r ks old new e = (activated_count r ks, few_activated r ks, e)

pub rises_woken : (x : SimState) (t : Instant) (b : List Bool) (old new : ℕ) → IsKept x → ComesNext x t → b ≡ bits_then x.queue.held t x.bits →
    AreBitsAt x.queue.held x.bits t b → RisesWithin (awake_in (looked_at x t) t) old new →
    (w : World) → StandsFor (simulation_of x false) w → RisesWithin (woken_in x w t) old new
rises_woken x t b old new k c e v r w h = subst (λ (ks : List ℕ). RisesWithin ks old new) (awake_are_woken x t b k c e v w h) r

pub tally_woken : (x : SimState) (t : Instant) (b : List Bool) (r : Option ℕ) (old new : ℕ) → IsKept x → ComesNext x t → b ≡ bits_then x.queue.held t x.bits → AreBitsAt x.queue.held x.bits t b →
    new ≡ raised old (activated_count r (awake_in (looked_at x t) t)) → (w : World) → StandsFor (simulation_of x false) w → new ≡ raised old (activated_count r (woken_in x w t))
tally_woken x t b r old new k c e v h w s = subst (λ (ks : List ℕ). new ≡ raised old (activated_count r ks)) (awake_are_woken x t b k c e v w s) h
