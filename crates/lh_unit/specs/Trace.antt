-- Frames, the trace of a top up to a bound, and when two modules have the same trace.
use Rattle.std.specs.Prelude.{◌≡◌, ℕ, zero, suc, ◌+◌, List, [], ◌∷◌, ◌++◌, map, Bool, if◌then◌else◌, Option, Some, None}
use Rattle.lh_time.specs.declared.Instant.{Instant}
use Rattle.lh_types.specs.declared.frame.Outcome.{Outcome}
use Rattle.lh_types.specs.Types.{TypeTree, bit_count}
use Rattle.lh_types.specs.Values.{Datum}
use Rattle.lh_types.specs.Bits.{value_from_bits}
use Rattle.lh_types.specs.History.{bits_at}
use Rattle.lh_unit_names.specs.declared.name.UnitName.{UnitName}
use Rattle.lh_unit.specs.Contents.{ItemText}
use Rattle.lh_unit.specs.Held.{bits_in}
use Rattle.lh_unit.specs.Hierarchy.{Instance}
use Rattle.lh_unit.specs.Design.{Signal, Design, Refusal, Elaborated, refused, built, elab, instance_label}
use Rattle.lh_unit.specs.World.{World, Act, acts_at, first_world, world_after, next_instant}

-- what shows of a frame: its instant, the value of every signal, and the outcomes by instance and then by execution
pub record Frame : Type 0 where
  pub at : Instant
  pub values : List Datum
  pub outcomes : List Outcome

-- how a run ends: nothing is to come, the bound on frames was reached, or an instance ran away
pub data End : Type 0 where
  quiet : End
  steps : End
  runaway : (instance : ℕ) → End

-- frames, and how they end
pub record Run : Type 0 where
  pub frames : List Frame
  pub end : End

-- an instance as the trace shows it
pub record Shown : Type 0 where
  pub label : List ℕ
  pub parent : Option ℕ

-- a signal as the trace shows it
pub record ShownSignal : Type 0 where
  pub instance : ℕ
  pub name : List ℕ
  pub ty : TypeTree

abbrev pub shown_signal : Signal → ShownSignal
shown_signal s = record { instance = s.instance; name = s.name; ty = s.ty }

-- the refusal of elaboration, or the instances, the signals and the run
pub data Trace : Type 0 where
  refuses : Refusal → Trace
  ran : (instances : List Shown) → (signals : List ShownSignal) → Run → Trace

-- the least instance that ran away, the first of these having this number
abbrev pub least_runaway : ℕ → List Act → Option ℕ
least_runaway i [] = None
least_runaway i (a ∷ more) = if a.ran_away then Some i else least_runaway (i + 1) more

-- the outcomes by instance, only those below the least that ran away
abbrev pub outcomes_of : ℕ → List Act → List Outcome
outcomes_of i [] = []
outcomes_of i (a ∷ more) = if a.ran_away then [] else map (λ passed. record { instance = i; passed = passed }) a.outcomes ++ outcomes_of (i + 1) more

-- the value of a signal by the bits of all signals
abbrev pub signal_value : List Bool → Signal → Datum
signal_value bits s = value_from_bits s.ty (bits_in bits (record { lo = s.lo; len = bit_count s.ty }))

-- the frame at `t` in which the instances do this
abbrev pub frame_of : List Signal → Instant → (bits : List Bool) → List Act → Frame
frame_of signals t bits done = record { at = t; values = map (signal_value bits) signals; outcomes = outcomes_of 0 done }

-- a frame before others
abbrev pub before : Frame → Run → Run
before f r = record { frames = f ∷ r.frames; end = r.end }

-- a runaway ends the run with its frame
abbrev pub goes_on : Frame → Option ℕ → Run → Run
goes_on f (Some i) rest = record { frames = f ∷ []; end = runaway i }
goes_on f None rest = before f rest

-- without a further frame: quiet where there is no next instant
abbrev pub at_bound : Option Instant → Run
at_bound None = record { frames = []; end = quiet }
at_bound (Some t) = record { frames = []; end = steps }

-- a frame in which the instances do this, and what follows in the world after it
abbrev pub follows : Design → World → Instant → List Act → (World → Run) → Run
follows d w t done more = goes_on (frame_of d.signals t (bits_at w.history w.init t) done) (least_runaway 0 done) (more (world_after w t done))

-- the frames from the one at the next instant on
abbrev pub run_at : (bound : ℕ) → List ItemText → Design → World → Option Instant → (World → Run) → Run
run_at bound items d w None more = record { frames = []; end = quiet }
run_at bound items d w (Some t) more = follows d w t (acts_at bound items d w t) more

-- the frames from a world on, at most n
abbrev pub run_from : (bound : ℕ) → List ItemText → Design → ℕ → World → Run
run_from bound items d zero w = at_bound (next_instant w)
run_from bound items d (suc n) w = run_at bound items d w (next_instant w) (run_from bound items d n)

-- the instances with their labels
abbrev pub shown_from : ℕ → List Instance → List Shown
shown_from k [] = []
shown_from k (i ∷ more) = record { label = instance_label k i; parent = i.parent } ∷ shown_from (k + 1) more

-- the trace of a module that elaborates so
abbrev pub trace_by : (bound : ℕ) → List ItemText → (n : ℕ) → Elaborated → Trace
trace_by bound items n (refused r) = refuses r
trace_by bound items n (built d) = ran (shown_from 0 d.instances) (map shown_signal d.signals) (run_from bound items d n (first_world items d))

-- the same under any bound on the instructions of an activation
abbrev pub trace_within : (bound : ℕ) → List ItemText → (top : UnitName) → (n : ℕ) → Trace
trace_within bound items top n = trace_by bound items n (elab items top)

-- an activation has at most this many instructions
abbrev pub max_instructions : ℕ
max_instructions = 1000000

-- The trace of a module, a top and a bound on frames: the refusal of elaboration, or the instances, the signals, at most n frames, and the end.
abbrev pub trace : List ItemText → (top : UnitName) → (n : ℕ) → Trace
trace = trace_within max_instructions

-- for every top and every number of frames
abbrev pub SameTraceWithin : (bound : ℕ) → List ItemText → List ItemText → Type 0
SameTraceWithin bound m m' = (top : UnitName) (n : ℕ) → trace_within bound m top n ≡ trace_within bound m' top n

-- for every top and every number of frames, with the bound of the language
abbrev pub SameTrace : List ItemText → List ItemText → Type 0
SameTrace = SameTraceWithin max_instructions
