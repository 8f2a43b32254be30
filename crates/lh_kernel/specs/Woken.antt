-- Which instances wake in a frame, by what is kept of them.
use Rattle.std.specs.Prelude.{◌≡◌, ℕ, ◌+◌, ◌≤◌, ◌⊎◌, List, [], ◌∷◌, length, slice_get, Bool, true, if◌then◌else◌, Some}
use Rattle.std.specs.List.{list_any}
use Rattle.lh_time.specs.declared.Instant.{Instant}
use Rattle.lh_time.specs.Order.{instant_le}
use Rattle.lh_types.specs.declared.part.Range.{Range}
use Rattle.lh_unit.specs.Arena.{Arena}
use Rattle.lh_unit.specs.World.{bit_numbers, bit_differs, Moment, wakes}
use Rattle.lh_unit.specs.Within.{Each}
use Rattle.lh_eval.specs.declared.instance.Instance.{Instance}
use Rattle.lh_kernel_wakes.specs.Rising.{IsOneOf}
use Rattle.lh_kernel_wakes.specs.Sensed.{Senses}
use Rattle.lh_kernel_wakes.specs.Waking.{IsNoted}
use Rattle.lh_design.specs.declared.Signal.{Signal}
use Rattle.lh_design.specs.declared.Design.{Design}
use Rattle.lh_design.specs.Filling.{SignalsFill}
use Rattle.lh_kernel_changes.specs.Touched.{StaysSame}
use Rattle.lh_elab.specs.Probed.{probed_by, AreProbes}
use Rattle.lh_kernel_states.specs.declared.state.InstState.{InstState}
use Rattle.lh_kernel_states.specs.States.{parts_sensed, wake_kept}
use Rattle.lh_kernel.specs.States.{StatesFit}
use Rattle.lh_kernel.specs.Noted.{IsNotedFor}
use Rattle.lh_kernel.specs.declared.noted.Noted.{Noted}

-- an instance wakes, by what is kept of it
abbrev pub awakes : Arena → Moment → Instance → InstState → Bool
awakes a m i s = wakes m (parts_sensed s (probed_by a i)) (wake_kept s)

-- the numbers of the instances that wake, the first of these having this number
abbrev pub awake_from : ℕ → Arena → Moment → List Instance → List InstState → List ℕ
awake_from k a m [] ss = []
awake_from k a m (i ∷ is) [] = []
awake_from k a m (i ∷ is) (s ∷ ss) = if awakes a m i s then k ∷ awake_from (k + 1) a m is ss else awake_from (k + 1) a m is ss

-- What is kept of the instances of a design fits them and is noted exactly, what entities probe lies within the signals, and none wakes by itself before `t`.
pub record AreAsleep (a : Arena) (d : Design) (states : List InstState) (probes : List (List Range)) (n : Noted) (t : Instant) : Type 0 where
  pub fill : SignalsFill d
  pub fit : StatesFit a (length d.init) d.instances.items states
  pub probed : AreProbes a d.instances.items probes
  pub probed_within : Each (λ (rs : List Range). Each (λ (r : Range). r.lo + r.len ≤ length d.init) rs) probes
  pub noted : IsNotedFor a d.instances.items d.signals.items states n
  pub to_come : (u : Instant) (k : ℕ) → IsNoted n.wakes u k → instant_le t u ≡ true

-- the instance of this number senses a bit that differs
pub record IsRoused (states : List InstState) (probes : List (List Range)) (old now : List Bool) (k : ℕ) : Type 0 where
  pub state : InstState
  pub probed : List Range
  pub is_kept : slice_get states k ≡ Some state
  pub is_probed : slice_get probes k ≡ Some probed
  pub differs : list_any (bit_differs old now) (bit_numbers (parts_sensed state probed)) ≡ true

-- Of a signal that does not stay the same each instance that senses it and a bit that differs is now among these; beside those before there are only such as sense a bit that differs.
pub record HasRoused (signals : List Signal) (states : List InstState) (probes : List (List Range)) (n : Noted) (old now : List Bool) (signal : ℕ) (before after : List ℕ) : Type 0 where
  pub keeps : (k : ℕ) → IsOneOf k before → IsOneOf k after
  pub sound : (k : ℕ) → IsOneOf k after → IsOneOf k before ⊎ IsRoused states probes old now k
  pub all : StaysSame signals old now signal ⊎ ((k : ℕ) → Senses n.index signal k → IsRoused states probes old now k → IsOneOf k after)
