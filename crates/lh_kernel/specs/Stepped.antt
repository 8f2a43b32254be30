-- What a step of a simulation gives: the next frame of the trace.
use Rattle.std.specs.Prelude.{◌≡◌, ◌≤◌, ℕ, List, [], length, slice_get, true, Option, Some, None, Result, Ok, Err}
use Rattle.lh_time.specs.declared.Instant.{Instant}
use Rattle.lh_types.specs.Raised.{raised}
use Rattle.lh_types.specs.Pictures.{Picture, picture}
use Rattle.lh_types.specs.History.{bits_at}
use Rattle.lh_types.specs.declared.frame.Frame.{Frame}
use Rattle.lh_types.specs.declared.memory.NoMemory.{NoMemory}
use Rattle.lh_unit.specs.Contents.{ItemText}
use Rattle.lh_unit.specs.Arena.{contents}
use Rattle.lh_unit.specs.Design as text
use Rattle.lh_unit.specs.World.{World, Act, acts_at, world_after, next_instant}
use Rattle.lh_unit.specs.Trace.{least_runaway, frame_of}
use Rattle.lh_unit.specs.Frames.{values_before, picture_by, woken_at, activated_count}
use Rattle.lh_design.specs.Texts.{design_text}
use Rattle.lh_kernel.specs.declared.sim.SimStep.{SimStep}
use Rattle.lh_kernel.specs.declared.sim.SimStep.TheVariants.{Frame as AFrame, Runaway, Quiet}
use Rattle.lh_kernel.specs.Simulation.{Simulation, StandsFor}

-- what is read of the module, and its design
abbrev pub items_of : Simulation → List ItemText
items_of s = contents s.arena

abbrev pub design_of : Simulation → text.Design
design_of s = design_text s.arena s.design

-- what the instances do in the frame at `t`
abbrev pub acts_in : Simulation → World → Instant → List Act
acts_in s w t = acts_at 1000000 (items_of s) (design_of s) w t

-- what the frame at `t` shows
abbrev pub shows_at : Simulation → World → Instant → Picture
shows_at s w t = picture_by (values_before (design_of s) w) (frame_of (design_of s).signals t (bits_at w.history w.init t) (acts_in s w t))

-- The frame at the next instant, which goes on as the definition has it: a world after it, or the least instance that ran away.
pub record IsNextFrame (s : Simulation) (w : World) (f : Frame) (runaway : Option ℕ) : Type 0 where
  pub at : Instant
  pub comes : next_instant w ≡ Some at
  pub shows : picture f ≡ shows_at s w at
  pub ends : least_runaway 0 (acts_in s w at) ≡ runaway

-- the world after a frame at the instant
abbrev pub world_then : Simulation → World → Instant → World
world_then s w t = world_after w t (acts_in s w t)

-- the simulation has ended in a runaway at the instant, with the bits of its frame
pub record HasEnded (old new : Simulation) (w : World) (t : Instant) : Type 0 where
  pub ended : new.ended ≡ true
  pub bits : new.bits ≡ bits_at w.history w.init t

-- Exactly the next frame of the definition, and the simulation then stands for the world after it; or the frame in which an instance runs away, which ends the run; or nothing, exactly where
-- nothing is to come.
abbrev pub Stepped : (old : Simulation) → World → (new : Simulation) → SimStep → Type 0
Stepped old w new (AFrame f) = IsNextFrame old w f None × StandsFor new (world_then old w f.at)
Stepped old w new (Runaway f i) = IsNextFrame old w f (Some i) × HasEnded old new w f.at
Stepped old w new Quiet = (next_instant w ≡ None) × (new ≡ old)

-- the instances that are woken at the next instant, none where there is none
abbrev pub woken_next : Simulation → World → Option Instant → List ℕ
woken_next s w None = []
woken_next s w (Some t) = woken_at (items_of s) (design_of s) w t

-- how many activations and passes the step makes by its answer
abbrev pub runs_made : SimStep → (woken : List ℕ) → ℕ
runs_made (AFrame f) ks = length ks
runs_made (Runaway f i) ks = activated_count (Some i) ks
runs_made Quiet ks = 0

-- The tally rises by exactly the instances that are activated; where memory runs out by at most as many as are woken.
abbrev pub Tallied : Simulation → World → Result SimStep NoMemory → (old new : ℕ) → Type 0
Tallied s w (Ok step) old new = new ≡ raised old (runs_made step (woken_next s w (next_instant w)))
Tallied s w (Err e) old new = (n : ℕ) × (n ≤ length (woken_next s w (next_instant w))) × (new ≡ raised old n)

-- a signal of the design by its number
abbrev pub signal_of : Simulation → ℕ → Option text.Signal
signal_of s k = slice_get (design_of s).signals k
