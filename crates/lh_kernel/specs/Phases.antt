-- The phases of a step: the instant that comes next, the bits that were looked at, and the frame that is planned.
use Rattle.std.specs.Prelude.{◌≡◌, ◌≤◌, ℕ, List, length, map, true, false, Option, None}
use Rattle.std.specs.Option.{option_map}
use Rattle.lh_time.specs.declared.Instant.{Instant}
use Rattle.lh_time.specs.Order.{instant_le}
use Rattle.lh_types.specs.Raised.{raised}
use Rattle.lh_types.specs.Values.{Datum}
use Rattle.lh_types.specs.Pictures.{picture, showing_of}
use Rattle.lh_types.specs.History.{bits_at}
use Rattle.lh_types.specs.declared.frame.Frame.{Frame}
use Rattle.lh_unit.specs.World.{State, Moment, World}
use Rattle.lh_unit.specs.Trace.{least_runaway}
use Rattle.lh_unit.specs.Arena.{contents}
use Rattle.lh_unit.specs.Frames.{woken_at, signal_values, changes_by}
use Rattle.lh_unit.specs.Within.{Each}
use Rattle.lh_queue.specs.Queued.{NoneDueBefore}
use Rattle.lh_queue.specs.Holds.{IsAfter}
use Rattle.lh_kernel_wakes.specs.Waking.{IsNoted}
use Rattle.lh_design.specs.Texts.{signal_text, design_text}
use Rattle.lh_kernel_changes.specs.Touched.{AreSignals, OthersStay}
use Rattle.lh_kernel.specs.States.{StatesStand}
use Rattle.lh_kernel.specs.Touched.{bits_then}
use Rattle.lh_kernel.specs.Woken.{awake_from}
use Rattle.lh_kernel.specs.Ran.{AllRan, ActOfOne, outcomes_ran}
use Rattle.lh_kernel.specs.Moves.{AreMoves, MovesKnown, HasEntered}
use Rattle.lh_kernel.specs.Puts.{wishes_ran}
use Rattle.lh_kernel.specs.Kept.{IsKept}
use Rattle.lh_kernel.specs.Simulation.{StandsFor, simulation_of}
use Rattle.lh_kernel.specs.Stepped.{shows_at, acts_in, world_then}
use Rattle.lh_kernel.specs.declared.plan.FramePlan.{FramePlan}
use Rattle.lh_kernel.specs.declared.machine.SimState.{SimState}

-- The instant is later than that of the last frame; before it nothing is due and no instance wakes.
pub record ComesNext (x : SimState) (t : Instant) : Type 0 where
  pub after : IsAfter x.last t
  pub due : NoneDueBefore t x.queue.held
  pub wakes : (u : Instant) (k : ℕ) → IsNoted x.noted.wakes u k → instant_le t u ≡ true

-- The bits at the instant were looked at, and only signals that are touched may differ from those of the last frame.
pub record HasLooked (x : SimState) (t : Instant) (touched : List ℕ) : Type 0 where
  pub kept : IsKept (record x { looked = x.bits })
  pub comes : ComesNext x t
  pub looked : x.looked ≡ bits_then x.queue.held t x.bits
  pub known : AreSignals x.design.signals.items touched
  pub others : OthersStay x.design.signals.items touched x.bits x.looked

-- the moment of the frame at `t`, the bits at it being looked at
abbrev pub moment_in : SimState → Instant → Moment
moment_in x t = record { before = option_map (λ l. x.bits) x.last; now = x.looked; at = t }

-- the instances that wake in the frame at `t`, by their numbers
abbrev pub awake_in : SimState → Instant → List ℕ
awake_in x t = awake_from 0 x.«module».now (moment_in x t) x.design.instances.items x.states.items

-- the instances that wake in the frame at `t` of a world
abbrev pub woken_in : SimState → World → Instant → List ℕ
woken_in x w t = woken_at (contents x.«module».now) (design_text x.«module».now x.design) w t

-- the values of the signals in the last frame, none before the first
abbrev pub values_kept : SimState → Option (List Datum)
values_kept x = option_map (λ t. signal_values (map signal_text x.design.signals.items) x.bits) x.last

-- The frame at `t` shows the changes against the last one and the outcomes of those who wake; and this is what they did, what moves by it and how many wishes are made.
pub record IsPlanned (x : SimState) (t : Instant) (p : FramePlan) : Type 0 where
  pub at : p.frame.at ≡ t
  pub changes : map showing_of p.frame.changes ≡ changes_by (values_kept x) (signal_values (map signal_text x.design.signals.items) x.looked)
  pub outcomes : p.frame.outcomes ≡ outcomes_ran p.acts.items
  pub ran : (ps : List State) → StatesStand x.«module».now x.design.instances.items x.states.items ps →
      AllRan x.«module».now x.looked t x.design.instances.items ps (awake_in x t) p.acts.items p.runaway
  pub sound : Each (ActOfOne x.«module».now (length x.looked) t x.design.instances.items) p.acts.items
  pub moves : AreMoves x.design.signals.items x.probes.items x.states.items p.acts.items p.moves.items
  pub known : MovesKnown x.design.signals.items p.moves.items
  pub wishes : p.wishes ≡ length (wishes_ran t p.acts.items)

-- the machine with the bits of the instant looked at
abbrev pub looked_at : SimState → Instant → SimState
looked_at x t = record x { looked = bits_then x.queue.held t x.bits }

-- The frame is planned, there is room for its wishes, and what its instances come to is noted.
pub record IsAhead (old : SimState) (t : Instant) (p : FramePlan) (new : SimState) : Type 0 where
  pub plan : IsPlanned (looked_at old t) t p
  pub looked : new.looked ≡ bits_then old.queue.held t old.bits
  pub held : new.queue.held ≡ old.queue.held
  pub room : p.wishes ≤ new.queue.spare
  pub noted : HasEntered p.moves.items old.noted new.noted

-- The frame at `t` is what every world has next for which the old machine stands: what it shows, and who ran away; the new machine has its bits, and stands for the world after it, if none ran away.
pub record IsFrame (old new : SimState) (t : Instant) (f : Frame) (runaway : Option ℕ) : Type 0 where
  pub at : f.at ≡ t
  pub shows : (w : World) → StandsFor (simulation_of old false) w → picture f ≡ shows_at (simulation_of old false) w t
  pub ends : (w : World) → StandsFor (simulation_of old false) w → least_runaway 0 (acts_in (simulation_of old false) w t) ≡ runaway
  pub bits : (w : World) → StandsFor (simulation_of old false) w → new.bits ≡ bits_at w.history w.init t
  pub goes_on : runaway ≡ None → (w : World) → StandsFor (simulation_of old false) w → StandsFor (simulation_of new false) (world_then (simulation_of old false) w t)

-- the tally rises by at most as many as there are of these
abbrev pub RisesWithin : (ks : List ℕ) → (old new : ℕ) → Type 0
RisesWithin ks old new = (n : ℕ) × (n ≤ length ks) × (new ≡ raised old n)
