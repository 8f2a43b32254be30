-- The instances of a design with what is kept of them, one by one.
use Rattle.std.specs.Prelude.{◌≡◌, ℕ, List, [], ◌∷◌, slice_get, Some}
use Rattle.lh_time.specs.declared.Instant.{Instant}
use Rattle.lh_unit.specs.Arena.{Arena}
use Rattle.lh_unit.specs.World.{State, bit_numbers}
use Rattle.lh_eval.specs.declared.instance.Instance.{Instance}
use Rattle.lh_design.specs.declared.Signal.{Signal}
use Rattle.lh_kernel_changes.specs.Touched.{Touches}
use Rattle.lh_elab.specs.Probed.{probed_by}
use Rattle.lh_kernel_states.specs.declared.state.InstState.{InstState}
use Rattle.lh_kernel_states.specs.States.{StateIs, StateFits, parts_sensed, wake_kept}

-- what is kept of each stands for its state
abbrev pub StatesStand : Arena → List Instance → List InstState → List State → Type 0
StatesStand a [] [] [] = Unit {0}
StatesStand a (i ∷ is) (s ∷ ss) (p ∷ ps) = StateIs a i s p × StatesStand a is ss ps
StatesStand a _ _ _ = ⊥

-- what is kept of each fits it
abbrev pub StatesFit : Arena → (width : ℕ) → List Instance → List InstState → Type 0
StatesFit a width [] [] = Unit {0}
StatesFit a width (i ∷ is) (s ∷ ss) = StateFits a width i s × StatesFit a width is ss
StatesFit a width _ _ = ⊥

-- the instance of this number senses a bit of the signal
pub record SensesSignal (a : Arena) (instances : List Instance) (signals : List Signal) (states : List InstState) (signal k : ℕ) : Type 0 where
  pub instance : Instance
  pub state : InstState
  pub is : slice_get instances k ≡ Some instance
  pub stands : slice_get states k ≡ Some state
  pub touches : Touches signals (bit_numbers (parts_sensed state (probed_by a instance))) signal

-- the instance of this number wakes by itself at this instant
pub record WakesItself (states : List InstState) (t : Instant) (k : ℕ) : Type 0 where
  pub state : InstState
  pub stands : slice_get states k ≡ Some state
  pub wakes : wake_kept state ≡ Some t
