-- What always holds of the parts of a simulation between its steps.
use Rattle.std.specs.Prelude.{◌≡◌, ◌+◌, ◌≤◌, List, length, true, Option, Some, None}
use Rattle.lh_time.specs.declared.Instant.{Instant}
use Rattle.lh_time.specs.Order.{instant_lt, instant_le, IsLaterIfAny}
use Rattle.lh_types.specs.declared.part.Range.{Range}
use Rattle.lh_unit.specs.Within.{Each}
use Rattle.lh_queue.specs.Queued.{QueuedWish, EachWithin, EachNames}
use Rattle.lh_elab.specs.Answer.{IsDesignOf}
use Rattle.lh_elab.specs.Probed.{AreProbes}
use Rattle.lh_kernel_states.specs.declared.state.InstState.{InstState}
use Rattle.lh_kernel_states.specs.States.{wake_kept}
use Rattle.lh_kernel.specs.States.{StatesFit}
use Rattle.lh_kernel.specs.Noted.{IsNotedFor}
use Rattle.lh_kernel.specs.declared.machine.SimState.{SimState}

-- a wish was made by the last frame and is due after it; before the first frame there is none
abbrev pub IsWaiting : (last : Option Instant) → QueuedWish → Type 0
IsWaiting None x = ⊥
IsWaiting (Some l) x = (instant_le x.wish.made l ≡ true) × (instant_lt l x.wish.due ≡ true)

-- an instance wakes by itself after the last frame, if it does; before the first frame none does
abbrev pub WakesAfter : (last : Option Instant) → InstState → Type 0
WakesAfter None s = wake_kept s ≡ None
WakesAfter (Some l) s = IsLaterIfAny l (wake_kept s)

-- The design is that of a well-formed module; what is kept of the instances fits them and is noted; the wishes that are held and the wake times are to come;
-- and the second list of bits, in which the next frame is looked at, has the bits of the last one.
pub record IsKept (x : SimState) : Type 0 where
  pub design : IsDesignOf x.«module».now x.design
  pub width : length x.bits ≡ length x.design.init
  pub same : x.looked ≡ x.bits
  pub probes : AreProbes x.«module».now x.design.instances.items x.probes.items
  pub probes_within : Each (λ (rs : List Range). Each (λ (r : Range). r.lo + r.len ≤ length x.design.init) rs) x.probes.items
  pub fit : StatesFit x.«module».now (length x.design.init) x.design.instances.items x.states.items
  pub noted : IsNotedFor x.«module».now x.design.instances.items x.design.signals.items x.states.items x.noted
  pub within : EachWithin (length x.design.init) x.queue.held
  pub names : EachNames x.queue.held
  pub waiting : Each (IsWaiting x.last) x.queue.held
  pub wakes : Each (WakesAfter x.last) x.states.items
