-- What is noted of the instances: exactly which of them senses which signal, and which wakes by itself when.
use Rattle.std.specs.Prelude.{◌≡◌, ◌↔◌, ℕ, List, [], ◌∷◌, length}
use Rattle.lh_time.specs.declared.Instant.{Instant}
use Rattle.lh_types.specs.declared.part.Range.{Range}
use Rattle.lh_unit.specs.Arena.{Arena}
use Rattle.lh_eval.specs.declared.instance.Instance.{Instance}
use Rattle.lh_design.specs.declared.Signal.{Signal}
use Rattle.lh_kernel_wakes.specs.Sensed.{Senses}
use Rattle.lh_kernel_wakes.specs.Waking.{IsNoted}
use Rattle.lh_kernel_changes.specs.Touched.{AreWithin}
use Rattle.lh_kernel_states.specs.declared.state.InstState.{InstState}
use Rattle.lh_kernel_states.specs.States.{parts_sensed}
use Rattle.lh_kernel.specs.States.{SensesSignal, WakesItself}
use Rattle.lh_kernel.specs.declared.noted.Noted.{Noted}

pub record IsNotedFor (a : Arena) (instances : List Instance) (signals : List Signal) (states : List InstState) (n : Noted) : Type 0 where
  pub long : length n.index ≡ length signals
  pub senses : (signal k : ℕ) → Senses n.index signal k ↔ SensesSignal a instances signals states signal k
  pub wakes : (t : Instant) (k : ℕ) → IsNoted n.wakes t k ↔ WakesItself states t k

-- what each instance senses, one by one with what it probes, lies within so many bits
abbrev pub SensedWithin : (width : ℕ) → List InstState → (probes : List (List Range)) → Type 0
SensedWithin width [] [] = Unit {0}
SensedWithin width (s ∷ ss) (rs ∷ ps) = AreWithin width (parts_sensed s rs) × SensedWithin width ss ps
SensedWithin width _ _ = ⊥
