-- What holds of instants, worlds and traces.
use Rattle.std.specs.Prelude.{◌≡◌, ◌⊎◌, ◌↔◌, ◌≤◌, ℕ, ◌+◌, List, [], ◌∷◌, ◌++◌, length, slice_get, Contains, Bool, true, Some, None}
use Rattle.std.specs.List.Sorted.{IsStrictlyIncreasing}
use Rattle.lh_time.specs.declared.Instant.{Instant}
use Rattle.lh_types.specs.Types.{IsData, bit_count}
use Rattle.lh_types.specs.Parts.{bits_within}
use Rattle.lh_types.specs.Bits.{differing}
use Rattle.lh_types.specs.History.{Made, bits_at}
use Rattle.lh_unit_names.specs.declared.name.UnitName.{UnitName}
use Rattle.lh_unit.specs.Contents.{ItemText}
use Rattle.lh_unit.specs.Hierarchy.{Instance}
use Rattle.lh_unit.specs.Design.{Signal, Design}
use Rattle.lh_unit.specs.World.{State, unit_of, woken, moment_of, World, next_world, bits_of, IsNext, instant_after}
use Rattle.lh_unit.specs.Trace.{Frame, steps, Run, Trace, refuses, ran, signal_value, run_from, trace_within, SameTraceWithin}
use Rattle.lh_unit.specs.Frames.{world_later, woken_at, toggled}
use Rattle.lh_trace_laws.specs.Wishes.{ReachedFrom}

-- The next instant is later than the present one, and nothing comes before it.
abbrev pub NextComputes : Type 0
NextComputes = (t : Instant) (history : List Made) (states : List State) → IsNext t history states (instant_after (Some t) history states)

-- After a frame the bits of the last frame are those that it had: what is wished in it is due later.
abbrev pub BitsStay : Type 0
BitsStay = (bound : ℕ) (items : List ItemText) (d : Design) (w : World) (t : Instant) →
    bits_of (next_world bound items d w t) ≡ bits_at w.history w.init t

-- a run is whole, or it is cut and the other has one more frame
abbrev pub HasOneMoreFrame : Run → Run → Type 0
HasOneMoreFrame a b = (a ≡ b) ⊎ ((a.end ≡ steps) × ((f : Frame) × (b.frames ≡ a.frames ++ f ∷ [])))

abbrev pub TraceHasOneMore : Trace → Trace → Type 0
TraceHasOneMore (refuses r) b = refuses r ≡ b
TraceHasOneMore (ran instances signals a) (ran instances' signals' b) = (instances ≡ instances') × (signals ≡ signals') × HasOneMoreFrame a b
TraceHasOneMore _ _ = ⊥

-- The trace up to n is a prefix of that up to n + 1.
abbrev pub TraceIsPrefix : Type 0
TraceIsPrefix = (bound : ℕ) (items : List ItemText) (top : UnitName) (n : ℕ) → TraceHasOneMore (trace_within bound items top n) (trace_within bound items top (n + 1))

abbrev pub frame_count : Trace → ℕ
frame_count (refuses r) = 0
frame_count (ran instances signals r) = length r.frames

-- It has at most n frames.
abbrev pub TraceIsWithin : Type 0
TraceIsWithin = (bound : ℕ) (items : List ItemText) (top : UnitName) (n : ℕ) → frame_count (trace_within bound items top n) ≤ n

-- Equal contents have the same trace.
abbrev pub EqualSameTrace : Type 0
EqualSameTrace = (bound : ℕ) (m m' : List ItemText) → m ≡ m' → SameTraceWithin bound m m'

-- Having the same trace is an equivalence.
abbrev pub SameTraceTurns : Type 0
SameTraceTurns = (bound : ℕ) (m m' : List ItemText) → SameTraceWithin bound m m' → SameTraceWithin bound m' m

abbrev pub SameTraceLinks : Type 0
SameTraceLinks = (bound : ℕ) (a b c : List ItemText) → SameTraceWithin bound a b → SameTraceWithin bound b c → SameTraceWithin bound a c

-- frames, and then a run
abbrev pub then : List Frame → Run → Run
then frames r = record { frames = frames ++ r.frames; end = r.end }

-- A run goes on from the world after k frames as it does from there.
abbrev pub RunGoesOn : Type 0
RunGoesOn = (bound : ℕ) (items : List ItemText) (d : Design) (k n : ℕ) (w v : World) → world_later bound items d k w ≡ Some v →
    (length (run_from bound items d k w).frames ≡ k) × (run_from bound items d (k + n) w ≡ then (run_from bound items d k w).frames (run_from bound items d n v))

-- Where there is no world after k frames, the run has ended within k.
abbrev pub RunHasEnded : Type 0
RunHasEnded = (bound : ℕ) (items : List ItemText) (d : Design) (k n : ℕ) (w : World) → world_later bound items d k w ≡ None →
    run_from bound items d (k + n) w ≡ run_from bound items d k w

-- The world after k frames is one that frames come to.
abbrev pub LaterIsReached : Type 0
LaterIsReached = (bound : ℕ) (items : List ItemText) (d : Design) (k : ℕ) (w v : World) → world_later bound items d k w ≡ Some v → ReachedFrom bound items d w v

-- an instance is woken in the frame at `t`
pub record IsWoken (items : List ItemText) (d : Design) (w : World) (t : Instant) (k : ℕ) : Type 0 where
  pub instance : Instance
  pub state : State
  pub is : slice_get d.instances k ≡ Some instance
  pub stands : slice_get w.states k ≡ Some state
  pub wakes : woken (moment_of w t) (unit_of items instance.unit) instance state ≡ true

-- The instances that are listed as woken are exactly those that are.
abbrev pub WokenAreListed : Type 0
WokenAreListed = (items : List ItemText) (d : Design) (w : World) (t : Instant) (k : ℕ) → Contains (woken_at items d w t) k ↔ IsWoken items d w t k

-- Their numbers rise.
abbrev pub WokenRise : Type 0
WokenRise = (items : List ItemText) (d : Design) (w : World) (t : Instant) → IsStrictlyIncreasing (woken_at items d w t)

-- The bits of a signal that toggle are those in which it differs.
abbrev pub ToggledBits : Type 0
ToggledBits = (s : Signal) (old now : List Bool) → IsData s.ty → s.lo + bit_count s.ty ≤ length old → s.lo + bit_count s.ty ≤ length now →
    toggled (signal_value old s) (signal_value now s) ≡ differing (bits_within s.lo (bit_count s.ty) old) (bits_within s.lo (bit_count s.ty) now)
